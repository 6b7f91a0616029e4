use Rattle.std.proofs.Common.{◌≡◌, length, sym, ◌∙◌, ap}
use Rattle.message_values.specs.declared.components.ComponentDetails.{out-ComponentDetails}
use Rattle.message_values.proofs.FieldLemmas.{equal_component_details}
use Rattle.plain_values.proofs.ItemLemmas.{differ_in, not_true, not_same, other_item, same_more, same_all}
use Rattle.message_values.proofs.components.+same_details.Goals.{then-same, else-same}
use Rattle.message_values.proofs.components.+same_details.Goals as goal

pub returns-then-components-others : goal.returns-then-components-others
returns-then-components-others t c =
    differ_in (λ d. (out-ComponentDetails d).sub_component_map) _ _ _ _ c.as_slice-components.ensures.value c.as_slice-others.ensures.value
    (λ e. c.if-components-others.true (ap length e))

pub returns-then-not-same_details : goal.returns-then-not-same_details
returns-then-not-same_details t c =
    let apart : c.index-components-i.result ≡ c.index-others-i.result → ⊥ = elim c.if-same.branch [
      | then-same w ↦ (λ e. not_same _ _ _ w.same_details.ensures (sym w.value-is ∙ c.if-not-same_details.true) (ap (λ p. p.value) e))
      | else-same w ↦ (λ e. not_same _ _ _ c.same.ensures.same w.if-same.false (ap (λ p. p.key) e))
    ] in
    differ_in (λ d. (out-ComponentDetails d).sub_component_map) _ _ _ _ c.as_slice-components.ensures.value c.as_slice-others.ensures.value
    (other_item _ _ c.if-components-others.false c.loop-i.i _ _ c.loop-i-test.true c.index-components-i.is c.index-others-i.is apart)

pub loop-i-preserved : goal.loop-i-preserved
loop-i-preserved t c =
    let equal : c.index-components-i.result ≡ c.index-others-i.result = elim c.if-same.branch [
      | then-same w ↦ (λ i. record {
        key = c.same.ensures.same.0 w.if-same.true i;
        value = w.same_details.ensures.0 (sym w.value-is ∙ c.if-not-same_details.false) i;
      })
      | else-same w ↦ absurd (not_true (sym w.if-same.false ∙ sym w.value-is ∙ c.if-not-same_details.false))
    ] in
    same_more _ _ c.if-components-others.false c.loop-i.i _ _ c.loop-i-test.true c.index-components-i.is c.index-others-i.is c.loop-i.invariant equal

pub returns : goal.returns
returns t c =
    let components : (out-ComponentDetails c.args.details.now).sub_component_map ≡ (out-ComponentDetails c.args.other.now).sub_component_map =
    sym c.as_slice-components.ensures.value
    ∙ same_all _ _ c.if-components-others.false c.loop-i.i c.loop-i-test.false c.loop-i.invariant
    ∙ c.as_slice-others.ensures.value in (
      (λ t. equal_component_details c.args.details.now c.args.other.now (c.same-2.ensures.same.0 t) components),
      (λ e. c.same-2.ensures.same.1 (ap (λ d. (out-ComponentDetails d).metadata) e)),
    )
