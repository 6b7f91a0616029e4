use Rattle.std.proofs.Common.{take}
use Rattle.edge_heads.specs.Headers.{values}
use Rattle.edge_heads.specs.Rules.{headers_at, IsLone}
use Rattle.edge_heads.proofs.rules.find_lone.Given as goal

abbrev pub invariant-loop-header : goal.invariant-loop-header
invariant-loop-header l = IsLone l.bytes (values l.name (headers_at l.bytes (take l.header-index l.headers))) l.found
