-- What is noted of a run, by its command and its status.
use Rattle.std.specs.Prelude.{ℕ, ◌==◌, Option, None, Some, if◌then◌else◌}
use Rattle.message_values.specs.declared.custom.CustomMessage.{CustomMessage}
use Rattle.edge_devices.specs.Streams.{SinkView}
use Rattle.edge_notes.specs.declared.notes.Note.{Note}
use Rattle.edge_notes.specs.declared.notes.Note.TheVariants.{InputRefused, InputTooLong, InputUnread, MessageTooLarge, NoMemory, NumbersSpent, OutputUnwritten, OutsideFault, ReportTooLarge, RoundsSpent, StoreDamaged, StoreFault}
use Rattle.edge_notes.specs.Noted.{NotedIf}
use Rattle.command_words.specs.declared.commands.Command.{Command}
use Rattle.command_words.specs.declared.commands.Command.TheVariants.{Agent, Answer, Canon, Check, Fleet, Rollout, Serve, Show, Simulate, Storm}
use Rattle.command_serve.specs.Notes.{ServeNotes}
use Rattle.server_sessions.specs.Wiring.{WireView}

-- of a command over an input
abbrev pub input_note : ℕ → Option Note
input_note status =
    if status == 0 then None
    else if status == 1 then Some InputRefused
    else if status == 3 then Some InputUnread
    else if status == 4 then Some OutputUnwritten
    else if status == 5 then Some NoMemory
    else if status == 9 then Some InputTooLong
    else Some MessageTooLarge

-- of an agent
abbrev pub agent_note : ℕ → Option Note
agent_note status =
    if status == 0 then None
    else if status == 4 then Some OutputUnwritten
    else if status == 5 then Some NoMemory
    else if status == 6 then Some StoreFault
    else if status == 7 then Some StoreDamaged
    else if status == 8 then Some OutsideFault
    else if status == 9 then Some RoundsSpent
    else if status == 10 then Some NumbersSpent
    else Some ReportTooLarge

-- what the sink of notes took in a run with this status; of a server also what it did on the wire, and how its handlers may answer
abbrev pub Noted : (CustomMessage → Option CustomMessage → Type 0) → Command → WireView → WireView → ℕ → SinkView → SinkView → Type 0
Noted answers Answer old new status before after = NotedIf (input_note status) before after
Noted answers (Canon family) old new status before after = NotedIf (input_note status) before after
Noted answers (Show family) old new status before after = NotedIf (input_note status) before after
Noted answers Check old new status before after = NotedIf (input_note status) before after
Noted answers Simulate old new status before after = NotedIf (input_note status) before after
Noted answers (Storm start count) old new status before after = NotedIf (input_note status) before after
Noted answers (Fleet desks) old new status before after = NotedIf (input_note status) before after
Noted answers (Serve options) old new status before after = ServeNotes answers options old new status before after
Noted answers (Rollout options told) old new status before after = ServeNotes answers options old new status before after
Noted answers (Agent options) old new status before after = NotedIf (agent_note status) before after
