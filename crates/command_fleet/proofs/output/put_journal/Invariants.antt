use Rattle.std.specs.Prelude.{◌≡◌, ◌++◌, take}
use Rattle.command_fleet.specs.Output.{journal_frames}
use Rattle.command_fleet.proofs.output.put_journal.Given as goal

abbrev pub invariant-loop-at : goal.invariant-loop-at
invariant-loop-at l = l.output.bytes ≡ l.initial.output.bytes ++ journal_frames l.shard (take l.at l.rows)
