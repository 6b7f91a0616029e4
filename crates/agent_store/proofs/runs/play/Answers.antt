use Rattle.edge_devices.specs.MemoryDisks.{memory_disk}
use Rattle.edge_devices.proofs.DiskMoments.{goes_on}
use Rattle.agent_store.specs.Slots.{NotDamaged}
use Rattle.agent_store.proofs.Undamaged.{at-end}
use Rattle.agent_store.proofs.runs.play.Goals as goal

pub returns-in_err-run_once-clause-never : goal.returns-in_err-run_once-clause-never
returns-in_err-run_once-clause-never g c =
    let P = NotDamaged g.P.Payload.codec c.args.layout in
    goes_on (memory_disk c.args.disk.now) (memory_disk c.loop-run.disk) (memory_disk c.run_once.new.disk) P P c.loop-run.invariant.never c.run_once.ensures.never (λ image is. is)

pub loop-run-preserved : goal.loop-run-preserved
loop-run-preserved g c =
    let P = NotDamaged g.P.Payload.codec c.args.layout in record {
      never = goes_on (memory_disk c.args.disk.now) (memory_disk c.loop-run.disk) (memory_disk c.run_once.new.disk) P P c.loop-run.invariant.never c.run_once.ensures.never (λ image is. is);
    }

pub run_once-requires : goal.run_once-requires
run_once-requires g c = record { whole = at-end g.P.Payload.codec c.args.layout (memory_disk c.args.disk.now) (memory_disk c.loop-run.disk) c.loop-run.invariant.never }
