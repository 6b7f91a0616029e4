use Rattle.std.proofs.Common.{sym, ◌∙◌, subst}
use Rattle.plain_values.specs.Pairs.{IsAscending}
use Rattle.plain_values.proofs.ItemLemmas.{copied_more, copied_all}
use Rattle.message_values.proofs.components.+copy_details.Goals as goal

pub loop-pair-preserved : goal.loop-pair-preserved
loop-pair-preserved t c =
    c.in_ok-push.ensures.items
    ∙ copied_more _ _ c.loop-pair.pair-index _ _ c.loop-pair-test.true c.pair-item.is c.loop-pair.invariant
    (λ i. record { key = c.in_ok-key.ensures.copied i; value = c.in_ok-value.ensures i })

pub from_ascending-requires : goal.from_ascending-requires
from_ascending-requires t c =
    let slice = c.as_slice-pair-items in
    record {
      ascending = subst (λ ps. IsAscending ps) (sym (copied_all _ _ c.loop-pair.pair-index c.loop-pair-test.false c.loop-pair.invariant ∙ slice.ensures.value)) slice.ensures.ascending;
    }

pub copy_around-requires : goal.copy_around-requires
copy_around-requires t c =
    record {
      within = c.from_ascending.ensures.value
          ∙ copied_all _ _ c.loop-pair.pair-index c.loop-pair-test.false c.loop-pair.invariant
          ∙ c.as_slice-pair-items.ensures.value;
    }

pub returns : goal.returns
returns t c = c.copy_around.ensures.copied
