-- What each command makes of its input.
use Rattle.std.specs.Prelude.{ℕ, ◌<◌, List, [], length, Option}
use Rattle.command_streams.specs.declared.stop.OutputForm.{OutputForm}
use Rattle.command_streams.specs.declared.stop.OutputForm.TheVariants.{Frames, Lines}
use Rattle.command_streams.specs.declared.stop.Stop.{Stop}
use Rattle.command_streams.specs.declared.stop.Stop.TheVariants.{Ended, Refused, TooLong, Spent}
use Rattle.command_streams.specs.Made.{Gives}
use Rattle.command_streams.specs.Reading.{Step, Reads}
use Rattle.command_streams.specs.Output.{Framed}
use Rattle.server_core.specs.History.{Event}
use Rattle.command_frames.specs.declared.commands.StreamCommand.{StreamCommand}
use Rattle.command_frames.specs.declared.commands.StreamCommand.TheVariants.{Answer, CanonReport, CanonReply, Check, ShowReport, ShowReply}
use Rattle.command_frames.specs.Families.{Family, reports, replies}
use Rattle.command_frames.specs.Answering.{Replies}
use Rattle.command_frames.specs.Rewriting.{Rewrites}
use Rattle.command_frames.specs.Showing.{Shows}
use Rattle.command_frames.specs.Checking.{Checks}

-- Each of these says that the status and what was added to the output are those that the command gives of this input, within the budget of bytes.

-- the replies that are due after the reports that came before
abbrev pub AnswersStream : ℕ → Option (List ℕ) → Option (List ℕ) → Option (List ℕ) → ℕ → Type 0
AnswersStream = Framed Frames Replies []

-- each message in canonical form
abbrev pub CanonicalStream : {Message : Type 0} → Family Message → ℕ → Option (List ℕ) → Option (List ℕ) → Option (List ℕ) → ℕ → Type 0
CanonicalStream family = Framed {State = Unit {0}} Frames (Rewrites family) tt

-- each message as text
abbrev pub ShownStream : {Message : Type 0} → Family Message → ℕ → Option (List ℕ) → Option (List ℕ) → Option (List ℕ) → ℕ → Type 0
ShownStream family = Framed Lines (Shows family) 0

-- of each report what it lacks
abbrev pub CheckedStream : ℕ → Option (List ℕ) → Option (List ℕ) → Option (List ℕ) → ℕ → Type 0
CheckedStream = Framed Lines Checks 0

abbrev pub RunsStream : StreamCommand → ℕ → Option (List ℕ) → Option (List ℕ) → Option (List ℕ) → ℕ → Type 0
RunsStream Answer = AnswersStream
RunsStream CanonReport = CanonicalStream reports
RunsStream CanonReply = CanonicalStream replies
RunsStream ShowReport = ShownStream reports
RunsStream ShowReply = ShownStream replies
RunsStream Check = CheckedStream

-- what goes on from message to message: the reports that came, nothing, or how many messages were shown or checked
abbrev pub StateOf : StreamCommand → Type 0
StateOf Answer = List Event
StateOf CanonReport = Unit {0}
StateOf CanonReply = Unit {0}
StateOf ShowReport = ℕ
StateOf ShowReply = ℕ
StateOf Check = ℕ

abbrev pub opening : (command : StreamCommand) → StateOf command
opening Answer = []
opening CanonReport = tt
opening CanonReply = tt
opening ShowReport = 0
opening ShowReply = 0
opening Check = 0

abbrev pub makes : (command : StreamCommand) → Gives (StateOf command)
makes Answer = Replies
makes CanonReport = Rewrites reports
makes CanonReply = Rewrites replies
makes ShowReport = Shows reports
makes ShowReply = Shows replies
makes Check = Checks

abbrev pub form_of : StreamCommand → OutputForm
form_of Answer = Frames
form_of CanonReport = Frames
form_of CanonReply = Frames
form_of ShowReport = Lines
form_of ShowReply = Lines
form_of Check = Lines

-- By the command reading of the bytes stops so, behind these messages and what is written for them.
abbrev pub ReadsAs : (command : StreamCommand) → ℕ → List ℕ → List (Step (StateOf command)) → Stop → Type 0
ReadsAs command budget bytes steps stop = Reads (makes command) (opening command) budget bytes steps stop

-- Reading stopped at a fault, or at a message for which too much would be written.
abbrev pub IsFault : Stop → Type 0
IsFault Ended = ⊥
IsFault (Refused at why) = Unit {0}
IsFault TooLong = Unit {0}
IsFault Spent = ⊥

-- The bytes are fewer than the budget, and no reading of them by the command stops at a fault or at a message for which too much would be written.
abbrev pub HasNoFault : StreamCommand → ℕ → List ℕ → Type 0
HasNoFault command budget bytes = (length bytes < budget) × ((steps : List (Step (StateOf command))) (stop : Stop) → ReadsAs command budget bytes steps stop → IsFault stop → ⊥)

-- The bytes are frames of messages that the command takes, fewer than the budget.
abbrev pub IsValidInput : StreamCommand → ℕ → List ℕ → Type 0
IsValidInput command budget bytes = (steps : List (Step (StateOf command))) × ReadsAs command budget bytes steps Ended
