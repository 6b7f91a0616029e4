use Rattle.std.proofs.Common.{sym, ◌∙◌}
use Rattle.edge_heads.proofs.PlaceLemmas.{line-start}
use Rattle.edge_heads.proofs.places.line_start.Goals as goal

pub returns-then-has_text : goal.returns-then-has_text
returns-then-has_text c = line-start c.args.bytes.now c.in-Some.at c.in-Some.ensures.0 c.in-Some.ensures.1 (sym c.has_text.ensures ∙ c.if-has_text.true)
