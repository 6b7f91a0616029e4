use Rattle.std.proofs.Common.{length, get_or, sym, subst, ap, ◌∙◌, ◌<◌, ◌++◌, ◌∷◌, [], arith}
use Rattle.std.proofs.lemmas.Bool.{false≢true}
use Rattle.edge_shelf.proofs.Gathering.{Gathers, gathers_none, gathers_more, gathers_same, gathers_all, gathers_good, key_at}
use Rattle.edge_shelf.proofs.slots.names.Goals as goal
use Rattle.edge_shelf.proofs.slots.names.Goals.{then-is_there+in_ok-copy+in_ok-push, else-is_there}

pub loop-pair-init : goal.loop-pair-init
loop-pair-init c = subst (Gathers c.args.slots.now 0) (sym c.new-names.ensures.empty) (gathers_none _)

pub loop-pair-preserved : goal.loop-pair-preserved
loop-pair-preserved c =
    let items = c.as_slice-pair-items.ensures.value in
    let within : c.loop-pair.pair-index < length c.args.slots.now = omega (arith, ap length items, c.loop-pair-test.true) in
    let key = key_at c.args.slots.now c.loop-pair.pair-index c.pair-item.result within
    (c.pair-item.is ∙ ap (λ items. get_or items c.loop-pair.pair-index c.pair-item.result) items) in
    elim c.if-is_there.branch [
      | then-is_there+in_ok-copy+in_ok-push w ↦
          subst (Gathers c.args.slots.now _) (sym (w.names-is ∙ w.in_ok-push.ensures.ok ∙ ap (λ key. c.loop-pair.names ++ key ∷ []) w.in_ok-copy.ensures.copied))
          (gathers_more _ _ _ _ c.loop-pair.invariant key (sym c.is_there.ensures ∙ w.if-is_there.true))
      | else-is_there w ↦
          subst (Gathers c.args.slots.now _) (sym w.names-is)
          (gathers_same _ _ _ _ c.loop-pair.invariant key (λ s. false≢true (sym w.if-is_there.false ∙ c.is_there.ensures ∙ s)))
    ]

pub returns-clause-names : goal.returns-clause-names
returns-clause-names c =
    gathers_all _ c.loop-pair.pair-index _ (omega (arith, ap length c.as_slice-pair-items.ensures.value, c.loop-pair-test.false)) c.loop-pair.invariant

pub returns-clause-good : goal.returns-clause-good
returns-clause-good c = gathers_good _ _ _ c.loop-pair.invariant
