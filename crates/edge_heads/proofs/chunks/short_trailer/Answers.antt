use Rattle.std.proofs.Common.{arith, length-take}
use Rattle.edge_heads.specs.declared.TheConstants.{HEAD_LIMIT}
use Rattle.edge_heads.proofs.chunks.short_trailer.Goals as goal

pub trailer_in-requires : goal.trailer_in-requires
trailer_in-requires c = record { room = omega (arith, length-take HEAD_LIMIT c.args.bytes.now) }
