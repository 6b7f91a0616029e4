use Rattle.std.proofs.lemmas.Result.{err_from_is_err_and}
use Rattle.world_lab.specs.Labs.{lab_state}
use Rattle.command_scripts.proofs.Scripts.{taken_reading, untaken}
use Rattle.command_scripts.proofs.simulate.run_script.Goals as goal

pub returns-in_err-bytes-clause-simulates : goal.returns-in_err-bytes-clause-simulates
returns-in_err-bytes-clause-simulates g c =
    let p = err_from_is_err_and c.from_residual.result c.from_residual.ensures.1 in
    rw (p.1, p.2) (untaken c.one_script_reading.ensures.some _ c.in_err-bytes.field-0.0 (g.S.Source.left c.args.source.now) (g.K.Sink.taken c.args.sink.now) (lab_state c.args.lab.now) c.requires.unplayed c.in_err-bytes.ensures.failed)

pub returns-clause-simulates : goal.returns-clause-simulates
returns-clause-simulates g c =
    let reading = taken_reading c.one_script_reading.ensures.some (g.S.Source.left c.args.source.now) (g.S.Source.left c.take_script.new.source) c.in_ok-bytes.bytes.items c.in_ok-bytes.ensures.taken in
    (reading.0, reading.1, c.play.ensures.ends reading.0 (rw c.deref.ensures.value reading.2))

pub play-requires : goal.play-requires
play-requires g c = record { unplayed = c.requires.unplayed }
