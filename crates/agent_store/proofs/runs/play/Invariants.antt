use Rattle.edge_devices.specs.Disks.{LeftSince}
use Rattle.edge_devices.specs.MemoryDisks.{memory_disk}
use Rattle.agent_store.specs.Slots.{NotDamaged}
use Rattle.agent_store.proofs.runs.play.Given as goal

abbrev pub invariant-loop-run : goal.invariant-loop-run
invariant-loop-run g l = record {
  never : LeftSince (memory_disk l.fn.disk) (memory_disk l.disk) (NotDamaged g.P.Payload.codec l.layout);
}
