use Rattle.std.specs.Option.{option_map}
use Rattle.edge_devices.specs.MemoryDisks.{disk_countdown}
use Rattle.agent_rules.specs.Codec.{codec}
use Rattle.agent_rules.specs.Keeping.{ConfigDone}
use Rattle.agent_stopped.proofs.Played.{told-by, ok-plays, fail-plays, stop-due}
use Rattle.agent_stopped.proofs.playing.config_done.Goals as goal

pub returns-in-Ok-clause-played : goal.returns-in-Ok-clause-played
returns-in-Ok-clause-played c =
    ok-plays (record {
      store = c.bytes_tell_store.ensures.store codec;
      bytes = c.bytes_tell_store.ensures.bytes;
      stop = c.stopped_save_leaves.ensures.stop codec;
      image = c.stopped_save_leaves.ensures.image codec;
      reads = c.stopped_save_leaves.ensures.reads codec;
      generation = c.stopped_save_leaves.ensures.generation codec;
    }) c.args.agent.now c.args.disk.now c.requires.fits c.config_done.new.self c.config_done.new.disk (ConfigDone (option_map (λ trial. trial.tried) c.args.applied) c.args.status) tt c.in-Ok.ensures.room c.in-Ok.ensures.kept tt c.in-Ok.ensures.one_save

pub returns-in-Err-clause-played : goal.returns-in-Err-clause-played
returns-in-Err-clause-played c =
    fail-plays (record {
      store = c.bytes_tell_store.ensures.store codec;
      bytes = c.bytes_tell_store.ensures.bytes;
      stop = c.stopped_save_leaves.ensures.stop codec;
      image = c.stopped_save_leaves.ensures.image codec;
      reads = c.stopped_save_leaves.ensures.reads codec;
      generation = c.stopped_save_leaves.ensures.generation codec;
    }) c.args.agent.now c.args.disk.now c.requires.fits c.config_done.new.disk (ConfigDone (option_map (λ trial. trial.tried) c.args.applied) c.args.status) tt c.config_done.new.self c.in-Err.fail c.stop_or_memory.result
    (told-by (disk_countdown c.args.disk.now).others (disk_countdown c.config_done.new.disk).others c.other_faults-others.result c.in-Err.fail c.stop_or_memory.result
    c.other_faults-others.ensures.others c.stop_or_memory.ensures.stop c.stop_or_memory.ensures.memory c.stop_or_memory.ensures.same)
    c.in-Err.ensures.one_save

pub returns-in-Err-clause-stop_due : goal.returns-in-Err-clause-stop_due
returns-in-Err-clause-stop_due c = λ fault.
    stop-due (Unit {0}) c.args.agent.now c.config_done.new.self c.args.disk.now c.config_done.new.disk (ConfigDone (option_map (λ trial. trial.tried) c.args.applied) c.args.status) c.in-Err.fail c.stop_or_memory.result
    (told-by (disk_countdown c.args.disk.now).others (disk_countdown c.config_done.new.disk).others c.other_faults-others.result c.in-Err.fail c.stop_or_memory.result
    c.other_faults-others.ensures.others c.stop_or_memory.ensures.stop c.stop_or_memory.ensures.memory c.stop_or_memory.ensures.same)
    c.in-Err.ensures.one_save fault
