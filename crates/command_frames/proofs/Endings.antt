-- How a run of a command ends, by the one reading of its input.
use Rattle.std.proofs.Common.{◌≡◌, ℕ, ◌⊎◌, List, Option, None, Some, inl, inr, refl, sym, subst, arith}
use Rattle.std.specs.Prelude.{IfSome, IsSomeAnd, IsErrOf, Result, Ok, Err}
use Rattle.command_streams.specs.declared.stop.Stop.{Stop}
use Rattle.command_streams.specs.declared.stop.Stop.TheVariants.{Ended, Refused, TooLong, Spent}
use Rattle.command_streams.specs.Made.{IsSingleValued}
use Rattle.command_streams.specs.Reading.{Step, Reads}
use Rattle.command_streams.specs.Output.{EndsBy, Framed, status_of}
use Rattle.command_streams.specs.declared.stop.RunFail.{RunFail}
use Rattle.command_streams.specs.declared.stop.RunFail.TheVariants.{ReadFault, WriteFault, NoMemory}
use Rattle.command_streams.specs.Telling.{IsTotal}
use Rattle.command_streams.specs.declared.stop.OutputForm.{OutputForm}
use Rattle.command_streams.specs.Replies.{WritesAllTaken, WritesBeforeLast}
use Rattle.edge_devices.specs.Faults.{HasRisen}
use Rattle.message_codec.specs.Fields.{AreBytes}
use Rattle.command_frames.specs.declared.commands.StreamCommand.{StreamCommand}
use Rattle.command_frames.specs.declared.commands.StreamCommand.TheVariants.{Answer, CanonReport, CanonReply, Check, ShowReport, ShowReply}
use Rattle.command_frames.specs.declared.running.TheConstants.{BUDGET}
use Rattle.command_frames.specs.Outcomes.{StreamEnds, StreamOutcome}
use Rattle.command_frames.specs.Commands.{StateOf, opening, makes, form_of, RunsStream, ReadsAs, IsFault, HasNoFault, IsValidInput}

-- what holds of each command
pub for_each : (P : StreamCommand → Type 0) → P Answer → P CanonReport → P CanonReply → P ShowReport → P ShowReply → P Check → (command : StreamCommand) → P command
for_each P a b c d e f Answer = a
for_each P a b c d e f CanonReport = b
for_each P a b c d e f CanonReply = c
for_each P a b c d e f ShowReport = d
for_each P a b c d e f ShowReply = e
for_each P a b c d e f Check = f

-- the law of framed streams on endings, at what a command makes
abbrev pub EndsOnce : StreamCommand → Type 0
EndsOnce command = IsSingleValued (makes command) → (form : OutputForm) (start : StateOf command) (budget : ℕ) (bytes : List ℕ) (steps : List (Step (StateOf command))) (stop : Stop) (old new : Option (List ℕ)) (status : ℕ)
    → Reads (makes command) start budget bytes steps stop → Framed form (makes command) start budget (Some bytes) old new status → EndsBy form steps stop old new status

-- and the law that an input has one reading, and the one that it has some
abbrev pub ReadsOnce : StreamCommand → Type 0
ReadsOnce command = IsSingleValued (makes command) → (start : StateOf command) (budget : ℕ) (bytes : List ℕ) (a b : List (Step (StateOf command))) (stop_a stop_b : Stop)
    → Reads (makes command) start budget bytes a stop_a → Reads (makes command) start budget bytes b stop_b → (a ≡ b) × (stop_a ≡ stop_b)

abbrev pub ReadsSomehow : StreamCommand → Type 0
ReadsSomehow command = IsTotal (makes command) → (start : StateOf command) (budget : ℕ) (bytes : List ℕ) → AreBytes bytes → (steps : List (Step (StateOf command))) × (stop : Stop) × Reads (makes command) start budget bytes steps stop

-- a run of a command is one of what it makes
pub as_made : (command : StreamCommand) (budget : ℕ) (input old new : Option (List ℕ)) (status : ℕ) → RunsStream command budget input old new status → Framed (form_of command) (makes command) (opening command) budget input old new status
as_made Answer budget input old new status runs = runs
as_made CanonReport budget input old new status runs = runs
as_made CanonReply budget input old new status runs = runs
as_made ShowReport budget input old new status runs = runs
as_made ShowReply budget input old new status runs = runs
as_made Check budget input old new status runs = runs

-- the law on the endings of commands
abbrev pub Ends : Type 0
Ends = (command : StreamCommand) (budget : ℕ) (bytes : List ℕ) (steps : List (Step (StateOf command))) (stop : Stop) (old new : Option (List ℕ)) (status : ℕ)
    → ReadsAs command budget bytes steps stop → RunsStream command budget (Some bytes) old new status → EndsBy (form_of command) steps stop old new status

pub ends_once : (command : StreamCommand) → EndsOnce command → IsSingleValued (makes command) → (budget : ℕ) (bytes : List ℕ) (steps : List (Step (StateOf command))) (stop : Stop) (old new : Option (List ℕ)) (status : ℕ)
    → ReadsAs command budget bytes steps stop → RunsStream command budget (Some bytes) old new status → EndsBy (form_of command) steps stop old new status
ends_once command law once budget bytes steps stop old new status reads runs = law once (form_of command) (opening command) budget bytes steps stop old new status reads (as_made command budget (Some bytes) old new status runs)

pub ends_exactly : Ends → (command : StreamCommand) (budget : ℕ) (input old new : Option (List ℕ)) (status : ℕ) → RunsStream command budget input old new status
    → IfSome input (λ bytes. (steps : List (Step (StateOf command))) (stop : Stop) → ReadsAs command budget bytes steps stop → EndsBy (form_of command) steps stop old new status)
ends_exactly ends command budget None old new status framed = tt
ends_exactly ends command budget (Some bytes) old new status framed = λ steps stop reads. ends command budget bytes steps stop old new status reads framed

stream_is_complete : Ends → (command : StreamCommand) (budget : ℕ) (input old new : Option (List ℕ)) (status : ℕ) → RunsStream command budget input old new status
    → IsSomeAnd input (IsValidInput command budget) → (status ≡ 3 → ⊥) → (status ≡ 4 → ⊥) → (status ≡ 0) ⊎ (status ≡ 5)
stream_is_complete ends command budget None old new status framed valid no_read no_write = absurd valid
stream_is_complete ends command budget (Some bytes) old new status framed valid no_read no_write =
    elim (ends command budget bytes valid.0 Ended old new status valid.1 framed) [
      | inl done ↦ inl done.0
      | inr others ↦ elim others [ inl three ↦ absurd (no_read three) | inr more ↦ elim more [ inl four ↦ absurd (no_write four) | inr five ↦ inr five ] ]
    ]

-- the ending with the status of a read fault
pub read_fault_ending : (ending : Result Stop RunFail) → status_of ending ≡ 3 → IsErrOf ending ReadFault
read_fault_ending (Ok Ended) is = cc
read_fault_ending (Ok (Refused at why)) is = cc
read_fault_ending (Ok TooLong) is = cc
read_fault_ending (Ok Spent) is = cc
read_fault_ending (Err ReadFault) is = refl
read_fault_ending (Err WriteFault) is = cc
read_fault_ending (Err NoMemory) is = cc

-- ---- valid inputs

pub valid_has_no_fault : (command : StreamCommand) (budget : ℕ) (bytes : List ℕ)
    → ((a b : List (Step (StateOf command))) (stop_a stop_b : Stop) → ReadsAs command budget bytes a stop_a → ReadsAs command budget bytes b stop_b → (a ≡ b) × (stop_a ≡ stop_b))
    → IsValidInput command budget bytes → HasNoFault command budget bytes
valid_has_no_fault command budget bytes one valid = (valid.1.stops.0, λ steps stop reads bad. subst IsFault (sym (one valid.0 steps Ended stop valid.1 reads).1) bad)

pub no_fault_is_valid : (command : StreamCommand) (budget : ℕ) (bytes : List ℕ) (steps : List (Step (StateOf command))) (stop : Stop) → ReadsAs command budget bytes steps stop → HasNoFault command budget bytes → IsValidInput command budget bytes
no_fault_is_valid command budget bytes steps Ended reads sound = (steps, reads)
no_fault_is_valid command budget bytes steps (Refused at why) reads sound = absurd (sound.1 steps (Refused at why) reads tt)
no_fault_is_valid command budget bytes steps TooLong reads sound = absurd (sound.1 steps TooLong reads tt)
no_fault_is_valid command budget bytes steps Spent reads sound = absurd (omega (arith, sound.0, reads.stops.0))

-- ---- what comes of a command

pub stream_outcome : Ends → (command : StreamCommand) (before after : StreamEnds) (status : ℕ) → RunsStream command BUDGET before.source.left before.sink.taken after.sink.taken status
    → (status ≡ 3 → HasRisen before.source.faults after.source.faults) → (status ≡ 4 → HasRisen before.sink.faults after.sink.faults)
    → (status ≡ 3 → WritesAllTaken (makes command) (opening command) before.source.left after.source.left before.sink.taken after.sink.taken)
    → WritesBeforeLast (makes command) (opening command) BUDGET before.source.left after.source.left before.sink.taken after.sink.taken
    → StreamOutcome command before after status
stream_outcome ends command before after status runs read_fault write_fault written taken = record {
  output = runs;
  exact = ends_exactly ends command BUDGET before.source.left before.sink.taken after.sink.taken status runs;
  complete = λ valid no_read no_write. stream_is_complete ends command BUDGET before.source.left before.sink.taken after.sink.taken status runs valid
      (λ three. no_read (read_fault three))
      (λ four. no_write (write_fault four));
  before_read_fault = written;
  taken = taken;
}
