-- The parts of a round up to the answer.
use Rattle.std.specs.Prelude.{◌≡◌, ◌≢◌, ◌⊎◌, ℕ, length, List, true, false, if◌then◌else◌, Option, None, Some, Result, Ok, Err, codes, IsTrue, IfOk, OnOk, is_some}
use Rattle.std.specs.Option.{option_and_then}
use Rattle.plain_values.specs.declared.files.AgentConfigMap.{AgentConfigMap}
use Rattle.message_values.specs.declared.custom.CustomCapabilities.{CustomCapabilities}
use Rattle.message_values.specs.declared.report.AgentToServer.{AgentToServer}
use Rattle.message_values.specs.declared.reply.ServerToAgent.{ServerToAgent}
use Rattle.message_values.specs.declared.state.Settings.{Settings}
use Rattle.message_codec.specs.declared.wire.field.Why.{Why}
use Rattle.message_reports.specs.Reports.{MeansReport, ReportFault, canonical_report}
use Rattle.message_replies.specs.Header.{wrapped, payload_of}
use Rattle.message_replies.specs.Replies.{MeansReply, ReplyFault}
use Rattle.edge_devices.specs.declared.dialers.DialerCall.TheVariants.{Dial, Exchange}
use Rattle.edge_devices.specs.declared.dialers.DialFail.{DialFail}
use Rattle.edge_devices.specs.declared.dialers.LinkFail.{LinkFail}
use Rattle.edge_devices.specs.declared.folders.Area.TheVariants as areas
use Rattle.edge_devices.specs.declared.folders.FolderCall.TheVariants.{Read}
use Rattle.edge_devices.specs.declared.folders.FolderFail.{FolderFail}
use Rattle.edge_devices.specs.declared.folders.FolderFail.TheVariants as folder
use Rattle.edge_devices.specs.Dialers.{Dials, Exchanges}
use Rattle.edge_devices.specs.Endpoints.{endpoint_of, is_ws}
use Rattle.edge_devices.specs.Folders.{Calls, FolderState, Runs, SameAreas, SameFiles}
use Rattle.agent_config.specs.Config.{AreFiles, files_of}
use Rattle.agent_rules.specs.Reports.{message_of, fits_message}
use Rattle.agent_rules.specs.Half.{AgentHalf, target, entry_of}
use Rattle.agent_rules.specs.Keeping.{Change, Report}
use Rattle.agent_rules.specs.Calls.{has_number, may_report}
use Rattle.agent_rounds.specs.declared.ends.AgentEnd.{AgentEnd}
use Rattle.agent_rounds.specs.declared.ends.AgentEnd.TheVariants.{StoreFault, FolderFault, NumbersSpent, TooLarge, NoMemory}
use Rattle.agent_rounds.specs.declared.held.Settling.{Settling}
use Rattle.agent_rounds.specs.declared.held.Settling.TheVariants.{First, Again, Settled}
use Rattle.agent_rounds.specs.Identifying.{dialled_headers}
use Rattle.agent_rounds.specs.Status.{HeldLink, HeldView, is_to, local_by, without_link}
use Rattle.agent_rounds.specs.Stages.{Stage, Gives, MakesCall, EndsCall}

-- whether the area is to be settled again, and what becomes of the round, after a settling that ended so
abbrev pub still : Settling → Result Unit FolderFail → Settling
still settling (Ok _) = Settled
still settling (Err fail) = settling

abbrev pub settled_end : Settling → Result Unit FolderFail → Result Unit AgentEnd
settled_end settling (Ok _) = Ok tt
settled_end settling (Err folder.NoMemory) = Err NoMemory
settled_end First (Err folder.Fault) = Err FolderFault
settled_end Again (Err folder.Fault) = Ok tt
settled_end Settled (Err folder.Fault) = Ok tt

-- The area is settled to a configuration: where that succeeds it has this one's files and no others. The other areas stay as they were.
pub record SettlesTo (config : AgentConfigMap) (old new : FolderState) (answer : Result Unit FolderFail) : Type 0 where
  pub runs : Runs old new answer
  pub files : OnOk answer (IsTrue new.told → AreFiles (new.files areas.Config) (files_of config.config_map))
  pub others : SameAreas areas.Config old.files new.files

-- The area is settled to the active configuration; the first settling that fails ends the round, and a later one stays due.
pub record SettlesArea (s t : Stage) (result : Result Unit AgentEnd) : Type 0 where
  pub answer : Result Unit FolderFail
  pub settles : SettlesTo s.half.saved.config s.folder t.folder answer
  pub rest : t ≡ record s { folder = t.folder; held = record (s.held) { settling = still s.held.settling answer } }
  pub end : result ≡ settled_end s.held.settling answer

abbrev pub SettlesBy : Settling → Stage → Stage → Result Unit AgentEnd → Type 0
SettlesBy Settled s t result = Gives tt s t result
SettlesBy First s t result = SettlesArea s t result
SettlesBy Again s t result = SettlesArea s t result

abbrev pub SettlesWhereDue : Stage → Stage → Result Unit AgentEnd → Type 0
SettlesWhereDue s t result = SettlesBy s.held.settling s t result

-- What the status file says now: what it means, or where it isn't there, is refused, or the folder fails, what was read last.
abbrev pub TellsStatus : Option AgentToServer → Result (Option (List ℕ)) FolderFail → Option AgentToServer → Type 0
TellsStatus last (Ok (Some file)) now = ((status : AgentToServer) × (now ≡ Some status) × MeansReport file status)
    ⊎ ((at : ℕ) × (why : Why) × ReportFault file at why × (now ≡ last))
TellsStatus last (Ok None) now = now ≡ last
TellsStatus last (Err fail) now = now ≡ last

-- want of memory alone ends the round
abbrev pub EndsReading : Result (Option (List ℕ)) FolderFail → Result Unit AgentEnd → Type 0
EndsReading answer (Ok _) = answer ≢ Err folder.NoMemory
EndsReading answer (Err NoMemory) = Unit {0}
EndsReading answer (Err _) = ⊥

-- The status file is read, and all files are as they were.
pub record ReadsStatus (s t : Stage) (result : Result Unit AgentEnd) : Type 0 where
  pub answer : Result (Option (List ℕ)) FolderFail
  pub status : Option AgentToServer
  pub call : Calls s.folder t.folder (Read areas.Status (codes "status.pb")) answer
  pub body : IfOk answer (λ body. IsTrue t.folder.told → body ≡ s.folder.files areas.Status (codes "status.pb"))
  pub files : SameFiles s.folder.files t.folder.files
  pub end : EndsReading answer result
  pub rest : t ≡ record s { folder = t.folder; held = record (s.held) { status = status } }
  pub told : (result ≡ Ok tt → TellsStatus s.held.status answer status)
  pub kept : (result ≡ Err NoMemory → status ≡ s.held.status)

-- The agent is told what it knows of itself, with names that are those of its handlers; want of memory alone ends the round.
abbrev pub TellsLocal : (CustomCapabilities → Type 0) → Stage → Stage → Result Unit AgentEnd → Type 0
TellsLocal are s t (Ok _) = (names : CustomCapabilities) × (are names × MakesCall (Change (local_by s.held.status s.half.saved.config names)) s t (Ok tt))
TellsLocal are s t (Err end) = (end ≡ NoMemory) × (t ≡ s)

-- why no report is made: it is too large; or it is within the limits, and there is no number for it, or there is one, and its block isn't kept
abbrev pub EndsReport : Stage → AgentEnd → Type 0
EndsReport s TooLarge = (fits_message (message_of (entry_of s.half)) ≡ false) ⊎ ((has_number s.half ≡ true) × EndsCall s Report TooLarge)
EndsReport s NumbersSpent = (fits_message (message_of (entry_of s.half)) ≡ true) × ((has_number s.half ≡ false) ⊎ EndsCall s Report NumbersSpent)
EndsReport s end = EndsCall s Report end

-- The agent reports; its report's canonical bytes are given. Its disk fails only in the keeping of numbers for a report that is due.
abbrev pub MakesReport : Stage → Stage → Result (List ℕ) AgentEnd → Type 0
MakesReport s t (Ok bytes) = (bytes ≡ canonical_report (message_of (entry_of s.half))) × (may_report s.half ≡ true) × MakesCall Report s t (Ok tt)
MakesReport s t (Err StoreFault) = (may_report s.half ≡ true) × MakesCall Report s t (Err StoreFault)
MakesReport s t (Err end) = EndsReport s end × (t ≡ s)

-- the answer of a dial or an exchange, where there is one
abbrev pub value_of : {T E : Type 0} → Result T E → Option T
value_of (Ok value) = Some value
value_of (Err fail) = None

-- what is held once a dial ended so
abbrev pub link_dialled : Stage → Option ℕ → Option HeldLink
link_dialled s None = s.held.link
link_dialled s (Some number) = Some (record { number = number; uid = s.half.saved.uid; endpoint = (target s.half).endpoint; headers = (target s.half).headers })

-- the link held, if it was dialled as an agent of this identifier dials with these settings
abbrev pub idle_to : List ℕ → Settings → HeldView → Option ℕ
idle_to uid to held = option_and_then (λ link. if is_to uid to link then Some link.number else None) held.link

abbrev pub idle_link : Stage → Option ℕ
idle_link s = idle_to s.half.saved.uid (target s.half) s.held

-- The target is dialled with the agent's identifier and the settings' headers; the number of the link is given, or none where the dial was refused. A dialer that tells its calls numbers a link by the
-- place of its dial among them.
pub record DialsTarget (s t : Stage) (link : Option ℕ) : Type 0 where
  pub answer : Result ℕ DialFail
  pub numbered : IfOk answer (λ number. IsTrue t.dialer.told → number ≡ length s.dialer.calls)
  pub call : Dials s.dialer t.dialer (λ number. Dial (endpoint_of (target s.half).endpoint) (dialled_headers s.half.saved.uid (target s.half).headers) (is_some number)) answer
  pub rest : t ≡ record s { dialer = t.dialer; held = record (s.held) { link = link_dialled s (value_of answer) } }
  pub given : link ≡ value_of answer

abbrev pub LinksBy : Option ℕ → Stage → Stage → Result (Option ℕ) AgentEnd → Type 0
LinksBy (Some number) s t result = Gives (Some number) s t result
LinksBy None s t (Ok link) = DialsTarget s t link
LinksBy None s t (Err end) = (end ≡ NoMemory) × (t ≡ s)

-- Without an idle link to the target one is dialled. Want of memory before the dial ends the round.
abbrev pub HasLink : Stage → Stage → Result (Option ℕ) AgentEnd → Type 0
HasLink s t result = LinksBy (idle_link s) s t result

-- what is asked, and what an answer carries: on a WebSocket with its header (OpAMP specification, "WebSocket Message Format")
abbrev pub question_of : Settings → List ℕ → List ℕ
question_of to bytes = if is_ws to.endpoint then wrapped bytes else bytes

abbrev pub carried : Settings → List ℕ → List ℕ
carried to answer = if is_ws to.endpoint then payload_of answer else answer

-- The bytes are a reply to this agent; or they are none, or it is to another one.
abbrev pub IsReplyTo : List ℕ → List ℕ → Option ServerToAgent → Type 0
IsReplyTo uid bytes (Some reply) = MeansReply bytes reply × (reply.instance_uid ≡ uid)
IsReplyTo uid bytes None = ((at : ℕ) × (why : Why) × ReplyFault bytes at why) ⊎ ((reply : ServerToAgent) × MeansReply bytes reply × (reply.instance_uid ≢ uid))

-- A link that died gives no reply.
abbrev pub Hears : AgentHalf → Result (List ℕ) LinkFail → Result (Option ServerToAgent) AgentEnd → Type 0
Hears a (Ok answer) (Ok reply) = IsReplyTo a.saved.uid (carried (target a) answer) reply
Hears a (Ok answer) (Err end) = end ≡ NoMemory
Hears a (Err fail) result = result ≡ Ok None

-- a link that died is dropped
abbrev pub held_asked : {T : Type 0} → Result T LinkFail → HeldView → HeldView
held_asked (Ok value) held = held
held_asked (Err fail) held = without_link held

-- The report is asked; the reply is given, or none where the link is dead or the answer isn't a reply to it.
pub record AsksLink (bytes : List ℕ) (number : ℕ) (s t : Stage) (result : Result (Option ServerToAgent) AgentEnd) : Type 0 where
  pub answer : Result (List ℕ) LinkFail
  pub call : Exchanges s.dialer t.dialer (Exchange number (question_of (target s.half) bytes)) answer
  pub rest : t ≡ record s { dialer = t.dialer; held = held_asked answer s.held }
  pub hears : Hears s.half answer result

-- Want of memory before the exchange ends the round too.
abbrev pub AsksReport : List ℕ → Option ℕ → Stage → Stage → Result (Option ServerToAgent) AgentEnd → Type 0
AsksReport bytes None s t result = Gives None s t result
AsksReport bytes (Some number) s t (Ok reply) = AsksLink bytes number s t (Ok reply)
AsksReport bytes (Some number) s t (Err end) = ((end ≡ NoMemory) × (t ≡ s)) ⊎ AsksLink bytes number s t (Err end)
