use Rattle.std.proofs.Common.{◌≡◌}
use Rattle.command_scripts.specs.declared.simulate.ScriptFault.TheVariants.{BadLine}
use Rattle.command_scripts.specs.Simulating.{Plays, Fails}
use Rattle.command_scripts.proofs.simulate.play.Goals as goal

pub returns-in-Ok-clause-ends : goal.returns-in-Ok-clause-ends
returns-in-Ok-clause-ends g c reading reads =
    let same : reading ≡ Plays c.in-Ok.script = c.one_script_reading.ensures.one c.args.bytes.now reading (Plays c.in-Ok.script) reads (c.in-Ok.ensures.small, c.in-Ok.ensures.read) in
    rw same c.play_lines.ensures.ends

pub returns-in-Err-BadLine-clause-ends : goal.returns-in-Err-BadLine-clause-ends
returns-in-Err-BadLine-clause-ends g c reading reads =
    let bad = rw c.in-Err-BadLine.field-0-is at c.in-Err-BadLine.ensures.bad_line in
    let same : reading ≡ Fails c.in-Err-BadLine.at BadLine = c.one_script_reading.ensures.one c.args.bytes.now reading (Fails c.in-Err-BadLine.at BadLine) reads (bad.0, bad.1) in
    rw (same, c.requires.unplayed) c.refuse.ensures.ends

pub play_lines-requires : goal.play_lines-requires
play_lines-requires g c = record { unplayed = c.requires.unplayed }
