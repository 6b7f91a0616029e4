use Rattle.std.specs.Prelude.{◌≡◌, ◌<◌, ℕ, Bool, IsTrue, slice_get, Some}
use Rattle.shard_servers.proofs.checks.all_true.Given as goal

abbrev pub invariant-loop-at : goal.invariant-loop-at
invariant-loop-at l = (place : ℕ) (b : Bool) → place < l.at → slice_get l.flags place ≡ Some b → IsTrue b
