use Rattle.std.specs.Prelude.{take}
use Rattle.shard_servers.specs.Desks.{places_in}
use Rattle.shard_servers.proofs.Rising.{RisesTo}
use Rattle.shard_servers.proofs.checks.first_fall.Given as goal

abbrev pub invariant-loop-at : goal.invariant-loop-at
invariant-loop-at l = RisesTo l.last (places_in l.shard (take l.at l.told))
