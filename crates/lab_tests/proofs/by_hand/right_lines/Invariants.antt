use Rattle.std.proofs.Common.{◌≤◌}
use Rattle.lab_tests.proofs.HandPlays.{IsPlayedTo}
use Rattle.lab_tests.proofs.by_hand.right_lines.Given as goal

abbrev pub invariant-loop-line : goal.invariant-loop-line
invariant-loop-line g l = record {
  play : IsPlayedTo l.line-index l.play l.servers;
  right : l.right ≤ l.line-index;
}
