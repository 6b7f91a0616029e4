use Rattle.message_attributes.specs.AnyColumns.{any_columns, pair_columns}
use Rattle.message_codec.proofs.Parts.{depth_more, all_depth}
use Rattle.message_attributes.proofs.AnyWritten.{list_depth, array_depth, pairs_depth}
use Rattle.message_attributes.proofs.any_written.+depth.Goals as goal

pub any_deepest-returns-in-Array : goal.any_deepest-returns-in-Array
any_deepest-returns-in-Array t c =
    rw c.in-Array.is (record { levels = array_depth c.in-Array.values c.array_deepest.result _ (rw c.as_slice.ensures.value at c.array_deepest.ensures.levels) (cc) })

pub any_deepest-returns-in-Pairs : goal.any_deepest-returns-in-Pairs
any_deepest-returns-in-Pairs t c =
    rw c.in-Pairs.is (record { levels = pairs_depth c.in-Pairs.pairs c.kvlist_deepest.result _ (rw c.as_slice-in-Pairs.ensures.value at c.kvlist_deepest.ensures.levels) (cc) })

pub array_deepest-loop-value-preserved : goal.array_deepest-loop-value-preserved
array_deepest-loop-value-preserved t c =
    depth_more any_columns c.args.values.now c.loop-value.value-index c.value-item.result c.loop-value.most _ _ c.loop-value-test.true c.value-item.is c.loop-value.invariant c.any_deepest.ensures.levels (cc)

pub array_deepest-returns : goal.array_deepest-returns
array_deepest-returns t c =
    record { levels = all_depth any_columns c.args.values.now c.loop-value.value-index c.loop-value.most _ c.loop-value-test.false c.loop-value.invariant (list_depth any_columns c.args.values.now) }

pub kvlist_deepest-loop-pair-preserved : goal.kvlist_deepest-loop-pair-preserved
kvlist_deepest-loop-pair-preserved t c =
    depth_more pair_columns c.args.pairs.now c.loop-pair.pair-index c.pair-item.result c.loop-pair.most _ _ c.loop-pair-test.true c.pair-item.is c.loop-pair.invariant c.pair_deepest.ensures.levels (cc)

pub kvlist_deepest-returns : goal.kvlist_deepest-returns
kvlist_deepest-returns t c =
    record { levels = all_depth pair_columns c.args.pairs.now c.loop-pair.pair-index c.loop-pair.most _ c.loop-pair-test.false c.loop-pair.invariant (list_depth pair_columns c.args.pairs.now) }
