use Rattle.std.specs.Prelude.{◌≡◌, ◌<◌, ℕ, slice_get, Some}
use Rattle.shard_servers.specs.Agreement.{PlacesRise}
use Rattle.shard_servers.specs.Desks.{AreOwn, AtDesk}
use Rattle.shard_servers.proofs.checks.compare_all_orders.Given as goal

abbrev pub invariant-loop-at : goal.invariant-loop-at
invariant-loop-at g l = (place : ℕ) (d : AtDesk) → place < l.at → slice_get l.desks place ≡ Some d → PlacesRise d.told × AreOwn d.number d.told
