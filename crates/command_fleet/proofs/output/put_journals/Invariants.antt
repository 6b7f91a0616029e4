use Rattle.std.specs.Prelude.{◌≡◌, ◌++◌, take}
use Rattle.command_fleet.specs.Output.{fleet_frames}
use Rattle.command_fleet.proofs.output.put_journals.Given as goal

abbrev pub invariant-loop-shard : goal.invariant-loop-shard
invariant-loop-shard l = l.output.bytes ≡ l.initial.output.bytes ++ fleet_frames (take l.shard l.journals)
