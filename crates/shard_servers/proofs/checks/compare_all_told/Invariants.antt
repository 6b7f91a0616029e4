use Rattle.std.specs.Prelude.{◌≡◌, ◌<◌, ℕ, slice_get, Some}
use Rattle.std.specs.List.{AllByRecursion}
use Rattle.shard_servers.specs.Agreement.{Stands}
use Rattle.shard_servers.specs.Desks.{AtDesk}
use Rattle.shard_servers.proofs.checks.compare_all_told.Given as goal

abbrev pub invariant-loop-at : goal.invariant-loop-at
invariant-loop-at g l = (place : ℕ) (d : AtDesk) → place < l.at → slice_get l.desks place ≡ Some d → AllByRecursion (Stands l.journals) d.told
