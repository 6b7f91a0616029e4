-- Rounds of a supervisor whose server sends unasked too: what came is dropped before a report is asked, and a message that comes ends a wait.
use Rattle.std.specs.Prelude.{◌≡◌, ℕ, zero, suc, ◌-◌, ◌*◌, ◌/◌, List, Bool, true, false, if◌then◌else◌, Option, None, Some, Result, Ok, Err}
use Rattle.message_values.specs.declared.custom.CustomCapabilities.{CustomCapabilities}
use Rattle.message_values.specs.declared.custom.CustomMessage.{CustomMessage}
use Rattle.edge_devices.specs.declared.dialers.DialerCall.TheVariants.{Arrived}
use Rattle.edge_devices.specs.declared.dialers.LinkFail.{LinkFail}
use Rattle.edge_devices.specs.Dialers.{Exchanges}
use Rattle.agent_rounds.specs.declared.ends.AgentEnd.{AgentEnd}
use Rattle.agent_rounds.specs.declared.listening.Arrival.{Arrival}
use Rattle.agent_rounds.specs.declared.listening.Arrival.TheVariants.{Quiet, Came, Gone}
use Rattle.agent_rounds.specs.Moments.{number_held}
use Rattle.agent_rounds.specs.Parts.{AsksReport, HasLink, held_asked}
use Rattle.agent_rounds.specs.Replies.{WaitsFor}
use Rattle.agent_rounds.specs.Rounds.{Asking, Waiting, RoundBy, RoundsBy}
use Rattle.agent_rounds.specs.Stages.{Stage, Then, Gives}

-- nothing had come, a message had, or the link is dead
abbrev pub arrival_of_message : Option (List ℕ) → Arrival
arrival_of_message None = Quiet
arrival_of_message (Some message) = Came

abbrev pub arrival_of : Result (Option (List ℕ)) LinkFail → Arrival
arrival_of (Ok message) = arrival_of_message message
arrival_of (Err fail) = Gone

-- A message that came unasked on the link is taken and dropped, if there is one; a dead link is dropped.
pub record Looks (number : ℕ) (s t : Stage) (result : Result Arrival AgentEnd) : Type 0 where
  pub answer : Result (Option (List ℕ)) LinkFail
  pub call : Exchanges s.dialer t.dialer (Arrived number) answer
  pub rest : t ≡ record s { dialer = t.dialer; held = held_asked answer s.held }
  pub given : result ≡ Ok (arrival_of answer)

abbrev pub LooksOn : Option ℕ → Stage → Stage → Result Arrival AgentEnd → Type 0
LooksOn None = Gives Quiet
LooksOn (Some number) = Looks number

-- what came unasked on the link held, if one is
abbrev pub Listens : Stage → Stage → Result Arrival AgentEnd → Type 0
Listens s = LooksOn (number_held s.held) s

-- ---- before a report is asked

abbrev pub DrainsOn : (Stage → Stage → Result Bool AgentEnd → Type 0) → Arrival → Stage → Stage → Result Bool AgentEnd → Type 0
DrainsOn more Quiet = Gives true
DrainsOn more Came = more
DrainsOn more Gone = Gives false

-- What came unasked is dropped, by so many looks at most; whether nothing was left then, and the link isn't dead.
abbrev pub Drains : ℕ → Stage → Stage → Result Bool AgentEnd → Type 0
Drains zero = Gives false
Drains (suc looks) = Then Listens (DrainsOn (Drains looks))

-- 64 messages are dropped at most: where the 65th look finds one too, the report isn't asked
abbrev pub most_looks : ℕ
most_looks = 65

abbrev pub DrainsLink : Option ℕ → Stage → Stage → Result (Option ℕ) AgentEnd → Type 0
DrainsLink None = Gives None
DrainsLink (Some number) = Then (Drains most_looks) (λ quiet. Gives (if quiet then Some number else None))

-- The server is asked through a link on which nothing is left that came unasked.
abbrev pub AsksQuietServer : Asking
AsksQuietServer bytes = Then HasLink (λ link. Then (DrainsLink link) (AsksReport bytes))

-- ---- while a round waits

abbrev pub WaitsOn : Bool → (Stage → Stage → Result Bool AgentEnd → Type 0) → Arrival → Stage → Stage → Result Bool AgentEnd → Type 0
WaitsOn restart more Quiet = more
WaitsOn restart more Came = Gives restart
WaitsOn restart more Gone = more

-- the most that one part of a wait takes, in nanoseconds: a second
abbrev pub longest_part : ℕ
longest_part = 1000000000

-- A wait of so many of the longest parts and a last one. A message that came ends it behind a part.
abbrev pub WaitsInParts : ℕ → ℕ → Bool → Stage → Stage → Result Bool AgentEnd → Type 0
WaitsInParts zero last restart = Then (WaitsFor last restart) (λ _. Then Listens (λ _. Gives restart))
WaitsInParts (suc parts) last restart = Then (WaitsFor longest_part restart) (λ _. Then Listens (WaitsOn restart (WaitsInParts parts last restart)))

-- how many of the longest parts come before the last one
abbrev pub parts_before : ℕ → ℕ
parts_before nanos = (nanos - 1) / longest_part

abbrev pub ListensBy : Option ℕ → Bool → Stage → Stage → Result Bool AgentEnd → Type 0
ListensBy None restart = Gives restart
ListensBy (Some nanos) restart = WaitsInParts (parts_before nanos) (nanos - parts_before nanos * longest_part) restart

-- The round ends with its wait, if it has one.
abbrev pub ListensWith : Waiting
ListensWith pause = ListensBy pause.nanos pause.restart

-- ---- rounds

abbrev pub PushedRound : (CustomMessage → Option CustomMessage → Type 0) → (CustomCapabilities → Type 0) → Stage → Stage → Result Bool AgentEnd → Type 0
PushedRound = RoundBy AsksQuietServer ListensWith

abbrev pub PushedRounds : (CustomMessage → Option CustomMessage → Type 0) → (CustomCapabilities → Type 0) → ℕ → ℕ → Stage → Stage → Result ℕ AgentEnd → Type 0
PushedRounds = RoundsBy AsksQuietServer ListensWith
