-- What comes of a command over framed messages: its output, its status, and what of its input was read.
use Rattle.std.specs.Prelude.{◌≡◌, ℕ, ◌⊎◌, List, IfSome, IsSomeAnd}
use Rattle.edge_devices.specs.Faults.{HasRisen}
use Rattle.edge_devices.specs.Streams.{SinkView, SourceView}
use Rattle.command_streams.specs.declared.stop.Stop.{Stop}
use Rattle.command_streams.specs.Reading.{Step}
use Rattle.command_streams.specs.Output.{EndsBy}
use Rattle.command_streams.specs.Replies.{WritesAllTaken, WritesBeforeLast}
use Rattle.command_frames.specs.declared.commands.StreamCommand.{StreamCommand}
use Rattle.command_frames.specs.declared.running.TheConstants.{BUDGET}
use Rattle.command_frames.specs.Commands.{StateOf, makes, opening, RunsStream, ReadsAs, IsValidInput, form_of}

-- the source and the sink of a run
pub record StreamEnds : Type 0 where
  pub source : SourceView
  pub sink : SinkView

pub record StreamOutcome (command : StreamCommand) (before after : StreamEnds) (status : ℕ) : Type 0 where
  -- The output and the status are those that the command gives of the input.
  pub output : RunsStream command BUDGET before.source.left before.sink.taken after.sink.taken status
  -- Where reading of the input stops so, the status is that of this stop and the whole output was written, or a fault of the source (3), a fault of the
  -- sink (4) or want of memory (5) came before.
  pub exact : IfSome before.source.left (λ bytes. (steps : List (Step (StateOf command))) (stop : Stop)
      → ReadsAs command BUDGET bytes steps stop → EndsBy (form_of command) steps stop before.sink.taken after.sink.taken status)
  -- Where the input is frames of messages that the command takes, fewer than the budget, and neither the source nor the sink failed, all was done, or
  -- memory was wanting.
  pub complete : IsSomeAnd before.source.left (IsValidInput command BUDGET)
      → (HasRisen before.source.faults after.source.faults → ⊥)
      → (HasRisen before.sink.faults after.sink.faults → ⊥)
      → (status ≡ 0) ⊎ (status ≡ 5)
  -- Where the source fails, all that the command writes for the whole frames that were taken has gone out.
  pub before_read_fault : status ≡ 3 → WritesAllTaken (makes command) (opening command) before.source.left after.source.left before.sink.taken after.sink.taken
  -- Whatever the status is, what was taken of the source is whole frames and then what its last call brought, which was asked for no more than the next
  -- frame needs and a block; and before that call all that is written for the frames had gone out.
  pub taken : WritesBeforeLast (makes command) (opening command) BUDGET before.source.left after.source.left before.sink.taken after.sink.taken
