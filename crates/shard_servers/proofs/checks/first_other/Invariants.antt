use Rattle.std.specs.Prelude.{take}
use Rattle.std.specs.List.{AllByRecursion}
use Rattle.shard_servers.specs.Agreement.{Stands}
use Rattle.shard_servers.proofs.checks.first_other.Given as goal

abbrev pub invariant-loop-at : goal.invariant-loop-at
invariant-loop-at l = AllByRecursion (Stands l.journals) (take l.at l.told)
