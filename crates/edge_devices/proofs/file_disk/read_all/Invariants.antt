use Rattle.std.proofs.Common.{◌-◌, ◌≤◌, length}
use Rattle.edge_devices.proofs.file_disk.read_all.Given as goal

abbrev pub invariant-loop-filled : goal.invariant-loop-filled
invariant-loop-filled l = l.filled ≤ length l.into

abbrev pub decreases-loop-filled : goal.decreases-loop-filled
decreases-loop-filled l = length l.initial.into - l.filled
