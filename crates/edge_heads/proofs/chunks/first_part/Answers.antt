use Rattle.std.proofs.Common.{sym}
use Rattle.edge_heads.proofs.Cuts.{all-part}
use Rattle.edge_heads.proofs.chunks.first_part.Goals as goal

pub returns-then-bytes-lt-HEAD_LIMIT : goal.returns-then-bytes-lt-HEAD_LIMIT
returns-then-bytes-lt-HEAD_LIMIT c = sym (all-part c.args.bytes.now c.if-bytes-lt-HEAD_LIMIT.true)
