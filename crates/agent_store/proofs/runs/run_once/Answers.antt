use Rattle.std.proofs.Common.{subst, refl}
use Rattle.edge_devices.specs.Disks.{DiskState, LeftSince}
use Rattle.edge_devices.specs.MemoryDisks.{memory_disk}
use Rattle.agent_store.specs.Slots.{NotDamaged}
use Rattle.agent_store.proofs.Undamaged.{crash-never}
use Rattle.agent_store.proofs.runs.run_once.Goals as goal

pub returns-clause-never : goal.returns-clause-never
returns-clause-never g c =
    let codec = g.P.Payload.codec in
    let before = subst (λ (s : DiskState). LeftSince s (memory_disk c.load_and_save.new.disk) (NotDamaged codec c.args.layout)) c.arm.ensures.same (c.load_and_save.ensures.never refl) in
    crash-never codec c.args.layout (memory_disk c.args.disk.now) (memory_disk c.load_and_save.new.disk) (memory_disk c.crash.new.self) before c.crash.ensures.time c.crash.ensures.settled c.crash.ensures.image
