-- How a lab stands to the world of the script that is played in it.
use Rattle.std.specs.Prelude.{◌≡◌, ℕ, ◌*◌, ◌<◌, ◌≤◌, List, [], ◌∷◌, map, Option, None, IfSome, length, slice_get}
use Rattle.std.specs.List.{AllByRecursion}
use Rattle.std.specs.Option.{option_and_then}
use Rattle.message_values.specs.declared.reply.ServerToAgent.{ServerToAgent}
use Rattle.edge_devices.specs.Disks.{disk_bytes}
use Rattle.edge_devices.specs.MemoryDisks.{memory_disk}
use Rattle.server_core.specs.declared.offers.Offers.{Offers}
use Rattle.server_core.specs.Served.{Served}
use Rattle.server_core.specs.History.{Event as ServerEvent}
use Rattle.agent_rules.specs.Half.{AgentHalf}
use Rattle.agent_rules.specs.Reports.{Entry, message_of}
use Rattle.world_model.specs.World.{World, offers_at}
use Rattle.world_model.specs.Servers.{NameNobody, arrivals}
use Rattle.world_scripts.specs.declared.lines.Line.{Line}
use Rattle.world_lab.specs.declared.plays.Play.{Play}
use Rattle.world_lab.specs.declared.plays.SentReport.{SentReport}
use Rattle.world_lab.specs.declared.plays.WaitingPush.{WaitingPush}
use Rattle.world_lab.specs.declared.written.Written.{Written}
use Rattle.world_lab.specs.Playing.{Progress, endpoint_of, after_line, script_start, world_of}
use Rattle.world_lab.specs.Transcripts.{line_written}
use Rattle.world_lab.specs.Histories.{server_after, server_numbers}
pub use Rattle.world_lab.specs.Hosts.{IsServer, IsOffered, IsOfferedOne, IsReply, IsAgent, HasFiles, IsSeated, IsHosted, HasGenerations, GoesOn}
use Rattle.world_lab.specs.Hosts.{lab_opening}

-- what stands at a lab's servers for the agent: no packages
pub record AreOffers (offers : Offers) : Type 0 where
  pub packages : offers.packages ≡ None
  pub connection : IsOfferedOne offers.connection

-- ---- reports and replies

-- the report is the entry's, and what was kept of its reply is a lab server's
pub record IsSentAs (r : SentReport) (e : Entry) : Type 0 where
  pub message : r.message ≡ message_of e
  pub uid : e.uid ≡ script_start.uid
  pub server : endpoint_of r.server ≡ e.server
  pub digit : r.server < 10
  pub reply : IfSome r.reply IsReply

-- the reports are those of the entries, in their order
abbrev pub AreSent : List SentReport → List Entry → Type 0
AreSent [] [] = Unit {0}
AreSent [] (e ∷ es) = ⊥
AreSent (r ∷ rs) [] = ⊥
AreSent (r ∷ rs) (e ∷ es) = IsSentAs r e × AreSent rs es

-- each message is one that a lab's server pushes
abbrev pub ArePushed : List WaitingPush → Type 0
ArePushed pushes = AllByRecursion (λ push. IsReply push.message) pushes

-- the reply that was kept of the report at this place
abbrev pub kept_at : List SentReport → ℕ → Option ServerToAgent
kept_at sent place = option_and_then (λ r. r.reply) (slice_get sent place)

-- ---- the whole lab

-- An agent's half, the reports and the servers are as a world says, in which these reports and offers reached the servers.
pub record MirrorsWorld (w : World) (history : List ℕ → List ServerEvent) (half : AgentHalf) (sent : List SentReport) (servers : List Served) : Type 0 where
  pub agent_is : half ≡ w.agent
  pub sent_are : AreSent sent w.sent
  pub replies_are : (place : ℕ) → kept_at sent place ≡ w.replies place
  pub offers_are : (server uid : List ℕ) → AreOffers (offers_at (w.held server uid))
  pub servers_are : servers ≡ map (λ server. server_after (history (endpoint_of server))) server_numbers

-- The play is as far as this: world, disk, stop and pushes are as there, each event so far made at most four saves, and what is known of the agent is what it
-- was told.
pub record Mirrors (p : Progress) (play : Play) (servers : List Served) : Type 0 where
  pub world : MirrorsWorld (world_of p) (arrivals script_start p.events) play.host.agent.half play.sent.items servers
  pub image : disk_bytes (memory_disk play.host.disk) ≡ p.image
  pub stop : play.stop ≡ p.stop
  pub local : play.local ≡ play.host.agent.half.local
  pub opening : play.opening ≡ lab_opening
  pub hosted : IsHosted play.host
  pub saves : play.host.agent.store.generation ≤ 4 * length p.events
  pub pushes : play.pushes.items ≡ p.pushes
  pub pushed : ArePushed p.pushes
  -- no message that was taken unasked gave the agent an identifier
  pub nobody : NameNobody p.events

-- it is somewhere in a script
abbrev pub IsMirror : Play → List Served → Type 0
IsMirror play servers = (p : Progress) × Mirrors p play servers

-- the line was played here, and this is its line of the transcript
pub record IsPlayed (p : Progress) (line : Line) (play : Play) (servers : List Served) (shown : Written) : Type 0 where
  pub mirrors : Mirrors (after_line p line) play servers
  pub written : shown ≡ line_written p line

-- wherever the script was, the line was played
abbrev pub Plays : Line → Play → List Served → Play → List Served → Written → Type 0
Plays line play servers play' servers' written = (p : Progress) → Mirrors p play servers → IsPlayed p line play' servers' written
