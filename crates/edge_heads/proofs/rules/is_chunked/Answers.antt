use Rattle.std.proofs.Common.{codes}
use Rattle.edge_heads.specs.Headers.{lower, is_chunked}
use Rattle.edge_heads.proofs.RuleLemmas.{same_bytes}
use Rattle.edge_heads.proofs.rules.is_chunked.Goals as goal

pub returns : goal.returns
unfolding is_chunked
returns c = same_bytes _ (lower c.args.value.now) (lower (codes "chunked")) c.eq_ignore_ascii_case.ensures.test
