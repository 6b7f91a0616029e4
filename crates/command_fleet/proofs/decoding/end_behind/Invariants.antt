use Rattle.std.proofs.Common.{◌≤◌, ◌-◌, length}
use Rattle.command_fleet.proofs.decoding.end_behind.Given as goal

abbrev pub invariant-frames : goal.invariant-frames
invariant-frames l = (l.from ≤ l.at) × (l.at ≤ length l.block)

abbrev pub decreases-frames : goal.decreases-frames
decreases-frames l = length l.block - l.at
