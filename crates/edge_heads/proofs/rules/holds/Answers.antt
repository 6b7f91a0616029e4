use Rattle.std.proofs.Common.{codes, ◌∙◌, ap, sym, not}
use Rattle.edge_heads.specs.declared.rules.Rule.{Rule}
use Rattle.edge_heads.specs.Headers.{lower, is_close, is_coded}
use Rattle.edge_heads.specs.Rules.{rule_test}
use Rattle.edge_heads.proofs.RuleLemmas.{same_bytes}
use Rattle.edge_heads.proofs.rules.holds.Goals as goal

pub returns-in-Close : goal.returns-in-Close
unfolding is_close
returns-in-Close c = same_bytes c.eq_ignore_ascii_case-in-Close.result (lower c.args.value.now) (lower (codes "close")) c.eq_ignore_ascii_case-in-Close.ensures.test ∙ ap (λ (r : Rule). rule_test r c.args.value.now) (sym c.in-Close.is)

pub returns-in-Coded : goal.returns-in-Coded
unfolding is_coded
returns-in-Coded c = ap not (same_bytes c.eq_ignore_ascii_case.result (lower c.args.value.now) (lower (codes "identity")) c.eq_ignore_ascii_case.ensures.test) ∙ ap (λ (r : Rule). rule_test r c.args.value.now) (sym c.in-Coded.is)
