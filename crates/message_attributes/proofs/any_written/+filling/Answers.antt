use Rattle.std.proofs.Common.{arith}
use Rattle.message_codec.specs.Tables as tables
use Rattle.message_codec.specs.Values.{Content}
use Rattle.message_codec.specs.Canonical.{canonical, column_bytes, part_spelling}
use Rattle.message_codec.proofs.Backward.{pair_fills, part_fills, parts_all}
use Rattle.message_codec.proofs.Parts.{many_is, message_content}
use Rattle.message_attributes.specs.AnyColumns.{any_columns, pair_columns, list_columns}
use Rattle.message_attributes.proofs.AnyWritten.{array_spelled, pairs_spelled, item_fills}
use Rattle.message_attributes.proofs.any_written.+filling.Goals as goal

pub fill_any-returns-in-Array : goal.fill_any-returns-in-Array
fill_any-returns-in-Array t c =
    let bytes = canonical tables.ArrayValue (list_columns any_columns c.in-Array.values) in
    let content = rw c.as_slice.ensures.value at c.fill_array-start.ensures.fills in
    rw (c.in-Array.is, array_spelled c.in-Array.values) (record {
      fills = λ place. part_fills c.args.out.now c.fill_array-start.new.out c.fill_head.new.out 5 c.args.end c.fill_array-start.result c.fill_head.result bytes place content c.fill_head.ensures.fills;
    })

pub fill_any-returns-in-Pairs : goal.fill_any-returns-in-Pairs
fill_any-returns-in-Pairs t c =
    let bytes = canonical tables.KeyValueList (list_columns pair_columns c.in-Pairs.pairs) in
    let content = rw c.as_slice-in-Pairs.ensures.value at c.fill_kvlist-start.ensures.fills in
    rw (c.in-Pairs.is, pairs_spelled c.in-Pairs.pairs) (record {
      fills = λ place. part_fills c.args.out.now c.fill_kvlist-start.new.out c.fill_head-in-Pairs.new.out 6 c.args.end c.fill_kvlist-start.result c.fill_head-in-Pairs.result bytes place content c.fill_head-in-Pairs.ensures.fills;
    })

pub fill_array-loop-left-preserved : goal.fill_array-loop-left-preserved
fill_array-loop-left-preserved t c = record {
  within = omega (arith, c.loop-left.invariant.within);
  filled = λ place.
      item_fills any_columns tables.AnyValue c.args.values.now c.loop-left.left c.index-values-left.result c.args.out.now c.loop-left.out c.fill_any-start.new.out c.fill_head-at.new.out c.args.end c.loop-left.at c.fill_any-start.result c.fill_head-at.result
      c.loop-left-test.true c.loop-left.invariant.within c.index-values-left.is place (c.loop-left.invariant.filled place) c.fill_any-start.ensures.fills c.fill_head-at.ensures.fills;
}

pub fill_array-returns : goal.fill_array-returns
fill_array-returns t c = record {
  fills = λ place.
      parts_all (message_content any_columns tables.AnyValue) 1 c.args.values.now c.loop-left.left c.args.out.now c.loop-left.out c.args.end c.loop-left.at _ c.loop-left-test.false (c.loop-left.invariant.filled place) (many_is any_columns 1 tables.AnyValue c.args.values.now);
}

pub fill_kvlist-loop-left-preserved : goal.fill_kvlist-loop-left-preserved
fill_kvlist-loop-left-preserved t c = record {
  within = omega (arith, c.loop-left.invariant.within);
  filled = λ place.
      item_fills pair_columns tables.KeyValue c.args.pairs.now c.loop-left.left c.index-pairs-left.result c.args.out.now c.loop-left.out c.fill_pair-start.new.out c.fill_head-at.new.out c.args.end c.loop-left.at c.fill_pair-start.result c.fill_head-at.result
      c.loop-left-test.true c.loop-left.invariant.within c.index-pairs-left.is place (c.loop-left.invariant.filled place) c.fill_pair-start.ensures.fills c.fill_head-at.ensures.fills;
}

pub fill_kvlist-returns : goal.fill_kvlist-returns
fill_kvlist-returns t c = record {
  fills = λ place.
      parts_all (message_content pair_columns tables.KeyValue) 1 c.args.pairs.now c.loop-left.left c.args.out.now c.loop-left.out c.args.end c.loop-left.at _ c.loop-left-test.false (c.loop-left.invariant.filled place) (many_is pair_columns 1 tables.KeyValue c.args.pairs.now);
}

pub fill_pair-returns-in-Some : goal.fill_pair-returns-in-Some
fill_pair-returns-in-Some t c =
    let key = column_bytes 1 tables.Text (Content c.args.pair.now.key) in
    let bytes = canonical tables.AnyValue (any_columns c.in-Some.any) in
    rw c.in-Some.is (record {
      fills = λ place.
          pair_fills c.args.out.now c.fill_head-value.new.out c.fill_text.new.out c.args.end c.fill_head-value.result c.fill_text.result key (part_spelling 2 bytes) place
          (λ here. part_fills c.args.out.now c.fill_any-start.new.out c.fill_head-value.new.out 2 c.args.end c.fill_any-start.result c.fill_head-value.result bytes here c.fill_any-start.ensures.fills c.fill_head-value.ensures.fills) c.fill_text.ensures.fills;
    })
