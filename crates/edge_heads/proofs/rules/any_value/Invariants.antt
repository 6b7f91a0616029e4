use Rattle.std.proofs.Common.{◌≡◌, take, false}
use Rattle.edge_heads.specs.Headers.{has_value}
use Rattle.edge_heads.specs.Rules.{headers_at, rule_test}
use Rattle.edge_heads.proofs.rules.any_value.Given as goal

abbrev pub invariant-loop-header : goal.invariant-loop-header
invariant-loop-header l = has_value l.name (rule_test l.rule) (headers_at l.bytes (take l.header-index l.headers)) ≡ false
