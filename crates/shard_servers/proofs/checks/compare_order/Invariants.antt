use Rattle.std.specs.Prelude.{◌<◌, ℕ}
use Rattle.shard_servers.specs.Agreement.{IsRising}
use Rattle.shard_servers.specs.Desks.{places_in}
use Rattle.shard_servers.proofs.checks.compare_order.Given as goal

abbrev pub invariant-loop-shard : goal.invariant-loop-shard
invariant-loop-shard l = (s : ℕ) → s < l.shard → IsRising (places_in s l.told)
