use Rattle.std.proofs.Common.{arith}
use Rattle.edge_heads.proofs.PlaceLemmas.{nothing-known}
use Rattle.edge_heads.proofs.buffer.HeadBuffer.new.Goals as goal

pub invariant_of-result : goal.invariant_of-result
invariant_of-result c = (omega arith, nothing-known c.args.side)
