use Rattle.std.proofs.Common.{◌≡◌, IsTrue}
use Rattle.edge_devices.specs.Disks.{LeftSince}
use Rattle.agent_store.specs.Slots.{NotDamaged}
use Rattle.agent_store.specs.Store.{Fits}
use Rattle.agent_store.proofs.runs.save_all.Given as goal

abbrev pub invariant-loop-next : goal.invariant-loop-next
invariant-loop-next g l = record {
  fits : Fits g.P.Payload.codec (g.D.Disk.state l.disk) l.store;
  layout : l.store.layout ≡ l.fn.store.layout;
  never : IsTrue (g.D.Disk.state l.fn.disk).told → LeftSince (g.D.Disk.state l.fn.disk) (g.D.Disk.state l.disk) (NotDamaged g.P.Payload.codec l.fn.store.layout);
}
