use Rattle.std.proofs.Common.{◌∙◌}
use Rattle.plain_values.proofs.ItemLemmas.{copied_more, copied_all}
use Rattle.message_values.proofs.attributes.+copy_value.Goals as goal

pub copy_values-loop-value-preserved : goal.copy_values-loop-value-preserved
copy_values-loop-value-preserved t c =
    c.in_ok-push.ensures.ok
    ∙ copied_more _ _ c.loop-value.value-index _ _ c.loop-value-test.true c.value-item.is c.loop-value.invariant c.in_ok-copy_value.ensures

pub copy_values-returns : goal.copy_values-returns
copy_values-returns t c = copied_all _ _ c.loop-value.value-index c.loop-value-test.false c.loop-value.invariant

pub copy_pairs-loop-pair-preserved : goal.copy_pairs-loop-pair-preserved
copy_pairs-loop-pair-preserved t c =
    c.in_ok-push.ensures.ok
    ∙ copied_more _ _ c.loop-pair.pair-index _ _ c.loop-pair-test.true c.pair-item.is c.loop-pair.invariant c.in_ok-copy_pair.ensures

pub copy_pairs-returns : goal.copy_pairs-returns
copy_pairs-returns t c = copied_all _ _ c.loop-pair.pair-index c.loop-pair-test.false c.loop-pair.invariant
