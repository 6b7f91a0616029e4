use Rattle.std.proofs.Common.{arith}
use Rattle.edge_heads.proofs.PlaceLemmas.{nothing-known}
use Rattle.edge_heads.proofs.buffer.HeadBuffer.advance.Goals as goal

pub invariant_of-self : goal.invariant_of-self
invariant_of-self c = (omega arith, nothing-known c.self.inside.side)
