use Rattle.std.proofs.Common.{◌≤◌}
use Rattle.lab_tests.specs.Wells.{IsWell}
use Rattle.lab_tests.proofs.compared.right_lines.Given as goal

abbrev pub invariant-loop-line : goal.invariant-loop-line
invariant-loop-line g l = record {
  well : IsWell l.disk l.agent;
  right : l.right ≤ l.line-index;
}
