use Rattle.std.proofs.Common.{arith}
use Rattle.world_lab.specs.Playing.{after_line, first_progress}
use Rattle.lab_tests.proofs.by_hand.right_lines.Goals as goal

pub played-shown-requires : goal.played-shown-requires
played-shown-requires g c =
    let play = c.loop-line.invariant.play in
    record {
      mirror = (play.progress, play.mirrors);
      generations = omega (arith, play.mirrors.saves, play.few, c.loop-line-test.true, c.requires.few);
    }

pub loop-line-init : goal.loop-line-init
loop-line-init g c = record {
  play = record { progress = first_progress; mirrors = c.requires.opened; few = omega arith };
  right = omega arith;
}

pub loop-line-preserved : goal.loop-line-preserved
loop-line-preserved g c =
    let play = c.loop-line.invariant.play in
    let played = c.played-shown.ensures.played play.progress play.mirrors in
    let one = c.lines_make_one_event.ensures.one play.progress c.line-item.result in
    record {
      play = record { progress = after_line play.progress c.line-item.result; mirrors = played.mirrors; few = omega (arith, one, play.few) };
      right = omega (arith, c.loop-line.invariant.right);
    }
