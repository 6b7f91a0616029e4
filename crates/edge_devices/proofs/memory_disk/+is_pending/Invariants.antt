use Rattle.std.proofs.Common.{length}
use Rattle.edge_devices.proofs.memory_disk.+is_pending.Given as goal

abbrev pub decreases-is_pending : goal.decreases-is_pending
decreases-is_pending l = length l.calls.now
