use Rattle.std.proofs.Common.{ℕ, ◌+◌, ◌<◌, List, take, length, sym, ◌∙◌, subst}
use Rattle.edge_heads.specs.declared.rules.Lone.{Lone}
use Rattle.edge_heads.specs.Headers.{values}
use Rattle.edge_heads.specs.Rules.{headers_at, IsLone}
use Rattle.edge_heads.proofs.RuleLemmas.{values-none, named-found, unnamed-values}
use Rattle.edge_heads.proofs.rules.find_lone.Goals as goal
use Rattle.edge_heads.proofs.rules.find_lone.Goals.{then-is_name, else-is_name}

pub loop-header-init : goal.loop-header-init
loop-header-init c = values-none c.args.name.now

pub loop-header-preserved : goal.loop-header-preserved
loop-header-preserved c =
    let bytes = c.args.bytes.now in
    let name = c.args.name.now in
    let spans = c.args.headers.now in
    let i = c.loop-header.header-index in
    let lt : i < length spans = c.loop-header-test.true in
    elim c.if-is_name.branch [
      | then-is_name w ↦
          subst (λ (lone : Lone). IsLone bytes (values name (headers_at bytes (take (i + 1) spans))) lone) (sym (w.found-is ∙ w.one_more-found.ensures))
          (named-found bytes name spans i _ c.loop-header.found lt (c.requires.within i _ lt).1 (sym c.is_name.ensures ∙ w.if-is_name.true) c.loop-header.invariant)
      | else-is_name w ↦
          subst (λ (lone : Lone). IsLone bytes (values name (headers_at bytes (take (i + 1) spans))) lone) (sym w.found-is)
          (subst (λ (t : List (List ℕ)). IsLone bytes t c.loop-header.found)
          (sym (unnamed-values bytes name spans i _ lt (sym c.is_name.ensures ∙ w.if-is_name.false))) c.loop-header.invariant)
    ]
