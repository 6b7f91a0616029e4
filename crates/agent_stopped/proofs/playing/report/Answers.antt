use Rattle.std.proofs.Common.{◌≡◌, true, Err, IsErrOf, ap}
use Rattle.std.specs.Prelude.{not, ◌&&◌}
use Rattle.std.proofs.lemmas.Bool.{and_parts}
use Rattle.agent_rules.specs.declared.rules.parts.AgentFail.{AgentFail}
use Rattle.agent_rules.specs.declared.rules.parts.AgentFail.TheVariants.{StoreFault}
use Rattle.agent_rules.specs.declared.rules.parts.Prepared.{Prepared}
use Rattle.agent_rules.specs.Half.{AgentHalf, entry_of}
use Rattle.agent_rules.specs.Reports.{message_of, fits_message}
use Rattle.agent_rules.specs.Calls.{has_number, may_report}
use Rattle.edge_devices.specs.MemoryDisks.{disk_countdown}
use Rattle.agent_rules.specs.Codec.{codec}
use Rattle.agent_rules.specs.Keeping.{Report, fits}
use Rattle.agent_stopped.proofs.Played.{told-by, ok-plays, fail-plays, stop-due}
use Rattle.agent_stopped.proofs.playing.report.Goals as goal

-- what may be reported has room
last : (a : AgentHalf) → may_report a ≡ true → fits a Report ≡ true
last a due =
    (and_parts (has_number a) (fits a Report)
    ((and_parts (fits_message (message_of (entry_of a))) (has_number a && fits a Report)
    ((and_parts (not a.awaits) (fits_message (message_of (entry_of a)) && (has_number a && fits a Report)) due).1)).1)).1

pub returns-in-Ok-clause-played : goal.returns-in-Ok-clause-played
returns-in-Ok-clause-played c =
    ok-plays (record {
      store = c.bytes_tell_store.ensures.store codec;
      bytes = c.bytes_tell_store.ensures.bytes;
      stop = c.stopped_save_leaves.ensures.stop codec;
      image = c.stopped_save_leaves.ensures.image codec;
      reads = c.stopped_save_leaves.ensures.reads codec;
      generation = c.stopped_save_leaves.ensures.generation codec;
    }) c.args.agent.now c.args.disk.now c.requires.fits c.report.new.self c.report.new.disk (Report) tt (last c.args.agent.now.half c.in-Ok.ensures.due) c.in-Ok.ensures.reported c.in-Ok.prepared c.in-Ok.ensures.one_save

pub returns-in-Err-clause-played : goal.returns-in-Err-clause-played
returns-in-Err-clause-played c =
    fail-plays (record {
      store = c.bytes_tell_store.ensures.store codec;
      bytes = c.bytes_tell_store.ensures.bytes;
      stop = c.stopped_save_leaves.ensures.stop codec;
      image = c.stopped_save_leaves.ensures.image codec;
      reads = c.stopped_save_leaves.ensures.reads codec;
      generation = c.stopped_save_leaves.ensures.generation codec;
    }) c.args.agent.now c.args.disk.now c.requires.fits c.report.new.disk (Report) tt c.report.new.self c.in-Err.fail c.stop_or_memory.result
    (told-by (disk_countdown c.args.disk.now).others (disk_countdown c.report.new.disk).others c.other_faults-others.result c.in-Err.fail c.stop_or_memory.result
    c.other_faults-others.ensures.others c.stop_or_memory.ensures.stop c.stop_or_memory.ensures.memory c.stop_or_memory.ensures.same)
    c.in-Err.ensures.one_save

pub returns-in-Err-clause-stop_due : goal.returns-in-Err-clause-stop_due
returns-in-Err-clause-stop_due c = λ fault.
    stop-due Prepared c.args.agent.now c.report.new.self c.args.disk.now c.report.new.disk Report c.in-Err.fail c.stop_or_memory.result
    (told-by (disk_countdown c.args.disk.now).others (disk_countdown c.report.new.disk).others c.other_faults-others.result c.in-Err.fail c.stop_or_memory.result
    c.other_faults-others.ensures.others c.stop_or_memory.ensures.stop c.stop_or_memory.ensures.memory c.stop_or_memory.ensures.same)
    c.in-Err.ensures.one_save fault

pub returns-in-Err-clause-fault_due : goal.returns-in-Err-clause-fault_due
returns-in-Err-clause-fault_due c = λ fault. c.in-Err.ensures.fault_due (ap (λ (f : AgentFail). Err f) (c.stop_or_memory.ensures.stop (told_is fault)).0)
  where
    told_is : {told : AgentFail} → IsErrOf {T = Prepared} (Err told) StoreFault → told ≡ StoreFault
    told_is fault = cc
