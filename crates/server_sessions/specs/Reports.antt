-- What a report gets. Sections are those of the OpAMP specification.
use Rattle.std.specs.Prelude.{◌≡◌, ℕ, ◌⊎◌, List, [], ◌∷◌, ◌++◌, Bool, true, false, not, ◌&&◌, ◌==◌, length, if◌then◌else◌, Option, None, Some, Result, Ok, Err, is_some, MatchBool}
use Rattle.uuid.specs.declared.Variant.TheVariants.{RFC4122}
use Rattle.uuid.specs.declared.Version.TheVariants.{Random}
use Rattle.uuid.specs.Parts.{with_variant, with_version}
use Rattle.message_codec.specs.declared.wire.field.Why.{Why}
use Rattle.message_values.specs.declared.custom.CustomMessage.{CustomMessage}
use Rattle.message_values.specs.declared.report.AgentToServer.{AgentToServer}
use Rattle.message_values.specs.declared.reply.ServerToAgent.{ServerToAgent}
use Rattle.message_values.specs.declared.profile.TheConstants.{REPORT_FULL_STATE, REQUEST_INSTANCE_UID}
use Rattle.edge_devices.specs.declared.clocks.EntropyFault.{EntropyFault}
use Rattle.edge_devices.specs.Clocks.{EntropyState, Fills}
use Rattle.message_reports.specs.Reports.{MeansReport, ReportFault}
use Rattle.message_replies.specs.Canonical.{canonical_reply}
use Rattle.message_replies.specs.Header.{wrapped}
use Rattle.edge_http.specs.Writing.{response_text}
use Rattle.message_deltas.specs.Obligations.{has_bit}
use Rattle.server_core.specs.declared.replies.Profile.{Profile}
use Rattle.server_core.specs.History.{Reported}
use Rattle.server_core.specs.Lengths.{fits_reply}
use Rattle.server_core.specs.Table.{Table, table_after, table_reply}
use Rattle.server_waves.specs.Register.{Rolling}
use Rattle.message_handlers.specs.declared.stored.Handlers.{Handlers}
use Rattle.message_handlers.specs.Asking.{Answering, MayAnswer}
use Rattle.server_sessions.specs.declared.answers.answering.Envelope.{Envelope}
use Rattle.server_sessions.specs.declared.answers.answering.Envelope.TheVariants.{Message, Response}
use Rattle.server_sessions.specs.declared.answers.stepped.Handled.{Handled}

-- who serves: what the server says of itself, and what its handlers may answer to a custom message
pub record Host : Type 1 where
  pub profile : Profile
  pub answers : CustomMessage → Option CustomMessage → Type 0

-- with these handlers, of which each may give the answers of that relation
abbrev pub host_of : {V : Type 0} {P : V → Type 0} → Answering V P → Profile → Handlers V P → Host
host_of answers profile handlers = record { profile = profile; answers = MayAnswer answers handlers }

-- one of which no handler answers, by which what no handler has a part in can be told
abbrev pub silent : Profile → Host
silent profile = record { profile = profile; answers = λ message answer. ⊥ }

-- what a report can change: what is seen of the source of random bytes, and the server's table
pub record Intake : Type 0 where
  pub entropy : EntropyState
  pub table : Table

abbrev pub intake_of : EntropyState → Table → Intake
intake_of entropy table = record { entropy = entropy; table = table }

-- what events can change: that, and the rollouts
pub record Desk : Type 0 where
  pub entropy : EntropyState
  pub table : Table
  pub rollouts : List Rolling

abbrev pub desk_of : EntropyState → Table → List Rolling → Desk
desk_of entropy table rollouts = record { entropy = entropy; table = table; rollouts = rollouts }

-- what a report can change of it
abbrev pub intake_in : Desk → Intake
intake_in desk = intake_of desk.entropy desk.table

-- The bytes mean this report.
unfoldable pub IsReport : List ℕ → AgentToServer → Type 0
IsReport bytes m = MeansReport bytes m

-- The bytes mean no report, since they have a fault.
unfoldable pub IsNoReport : List ℕ → Type 0
IsNoReport bytes = (at : ℕ) × (why : Why) × ReportFault bytes at why

-- "AgentToServer.flags", RequestInstanceUid
unfoldable pub asks_uid : AgentToServer → Bool
asks_uid m = has_bit m.flags REQUEST_INSTANCE_UID

-- sixteen bytes made an identifier of version 4 (RFC 9562, section 5.4)
abbrev pub version_4 : List ℕ → List ℕ
version_4 bytes = with_version (with_variant bytes RFC4122) Random

-- what a draw of these bytes gives: none where it answered its fault
abbrev pub fresh_from : List ℕ → Result Unit EntropyFault → Option (List ℕ)
fresh_from bytes (Ok done) = Some (version_4 bytes)
fresh_from bytes (Err fault) = None

-- One draw was made, and gave this identifier or none.
abbrev pub IsDrawn : EntropyState → EntropyState → Option (List ℕ) → Type 0
IsDrawn old new fresh = (bytes : List ℕ) × (result : Result Unit EntropyFault) × Fills old new bytes result × (fresh ≡ fresh_from bytes result)

-- An identifier is drawn exactly where the report asks for one.
abbrev pub Draws : AgentToServer → EntropyState → EntropyState → Option (List ℕ) → Type 0
Draws m old new fresh = MatchBool (asks_uid m) (IsDrawn old new fresh) ((new ≡ old) × (fresh ≡ None))

-- the reply of a server with this table
unfoldable pub reply_at : Profile → Table → AgentToServer → Option (List ℕ) → ServerToAgent
reply_at profile table m fresh = table_reply profile table m fresh

-- the table after the report
unfoldable pub table_with : Table → AgentToServer → Table
table_with table m = table_after table (Reported m)

-- A reply with neither command, error nor ReportFullState can carry a custom message ("ServerToAgent.custom_message").
unfoldable pub can_carry : ServerToAgent → Bool
can_carry reply = not (is_some reply.command) && (not (is_some reply.error_response) && not (has_bit reply.flags REPORT_FULL_STATE))

abbrev pub with_message : ServerToAgent → CustomMessage → ServerToAgent
with_message reply answer = record reply { custom_message = Some answer }

-- the reply with the handler's answer, where it can carry one and isn't too long with it
abbrev pub carrying : ServerToAgent → Option CustomMessage → ServerToAgent
carrying reply None = reply
carrying reply (Some answer) = if can_carry reply && fits_reply (with_message reply answer) then with_message reply answer else reply

-- This is answered to the report's custom message, if it has one.
abbrev pub IsAnswer : (CustomMessage → Option CustomMessage → Type 0) → Option CustomMessage → Option CustomMessage → Type 0
IsAnswer answers None answer = answer ≡ None
IsAnswer answers (Some message) answer = answers message answer

-- The server takes the report, and replies so. A handler's answer rides on the reply.
pub record Replies (host : Host) (m : AgentToServer) (old new : Intake) (reply : ServerToAgent) : Type 0 where
  pub fresh : Option (List ℕ)
  pub answer : Option CustomMessage
  pub draws : Draws m old.entropy new.entropy fresh
  pub asked : IsAnswer host.answers m.custom_message answer
  pub table : new.table ≡ table_with old.table m
  pub carried : reply ≡ carrying (reply_at host.profile old.table m fresh) answer

-- Memory was wanting for the report: the server took it or not.
pub record HalfTakes (m : AgentToServer) (old new : Intake) : Type 0 where
  pub fresh : Option (List ℕ)
  pub draws : Draws m old.entropy new.entropy fresh
  pub table : (new.table ≡ old.table) ⊎ (new.table ≡ table_with old.table m)

-- Memory was wanting for a report in these bytes: it was taken or not, or not even read.
abbrev pub HalfReads : List ℕ → Intake → Intake → Type 0
HalfReads bytes old new = (new ≡ old) ⊎ ((m : AgentToServer) × IsReport bytes m × HalfTakes m old new)

-- the identifier of sixteen bytes ("AgentToServer.instance_uid")
abbrev pub uid_in : List ℕ → Option (List ℕ)
uid_in bytes = if length bytes == 16 then Some bytes else None

-- the note of a report that was answered so: it was taken where the reply doesn't ask for the full state
abbrev pub noted_report : ℕ → Bool → List ℕ → ServerToAgent → Handled
noted_report conn ws uid reply = record { conn = conn; ws = ws; uid = uid; taken = not (has_bit reply.flags REPORT_FULL_STATE) }

-- the report of this agent is among those answered without error, where it was
abbrev pub note_handled : ℕ → Bool → Option (List ℕ) → ServerToAgent → List Handled → List Handled
note_handled conn ws None reply handled = handled
note_handled conn ws (Some uid) reply handled =
    if is_some reply.error_response then handled else handled ++ noted_report conn ws uid reply ∷ []

-- a reply in what it goes out in: a message of WebSocket behind its header, or a response 200
abbrev pub enclosed : Envelope → List ℕ → List ℕ
enclosed Message reply = wrapped reply
enclosed (Response closes) reply = response_text 200 reply closes

abbrev pub is_message : Envelope → Bool
is_message Message = true
is_message (Response closes) = false

-- The report gets a reply, which goes out in that, and is among those answered without error.
abbrev pub AnswersReport : Envelope → Host → ℕ → AgentToServer → Intake → Intake → List Handled → List Handled → List ℕ → Type 0
AnswersReport envelope host conn m old new handled noted answer =
    (reply : ServerToAgent) × Replies host m old new reply
    × (noted ≡ note_handled conn (is_message envelope) (uid_in m.instance_uid) reply handled) × (answer ≡ enclosed envelope (canonical_reply reply))
