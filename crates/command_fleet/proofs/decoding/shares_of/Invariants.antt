use Rattle.std.specs.Prelude.{◌≤◌, ◌-◌, All, length}
use Rattle.command_fleet.proofs.decoding.shares_of.Given as goal

abbrev pub invariant-shares : goal.invariant-shares
invariant-shares l = (l.from ≤ length l.block) × All (λ s. s.0 ≤ length l.block) l.shares.items

abbrev pub decreases-shares : goal.decreases-shares
decreases-shares l = length l.block - l.from
