use Rattle.std.proofs.Common.{◌≡◌, take}
use Rattle.edge_devices.specs.DiskReplays.{after}
use Rattle.edge_devices.proofs.memory_disk.cell_at.Given as goal

abbrev pub invariant-loop-call : goal.invariant-loop-call
invariant-loop-call l = l.cell ≡ after (take l.call-index l.calls) l.place
