use Rattle.std.proofs.Common.{◌≡◌, ◌∙◌, cond, refl, arith, rules}
use Rattle.std.specs.Int.{w64, cast_unsigned}
use Rattle.message_codec.specs.Tables as tables
use Rattle.message_codec.specs.Values.{Several}
use Rattle.message_codec.specs.Read.{each_of}
use Rattle.message_codec.specs.Canonical.{canonical, column_bytes, part_spelling}
use Rattle.message_codec.proofs.Canonical.{count_none, count_first, entry_counted}
use Rattle.message_codec.proofs.Parts.{parts_counted, all_counted, many_is, message_content, hold_more, all_hold, many_fit, fits_message}
use Rattle.message_attributes.specs.AnyColumns.{any_columns, pair_columns, list_columns}
use Rattle.message_attributes.proofs.AnyLaws.{any_array, any_pairs}
use Rattle.message_attributes.proofs.AnyWritten.{nothing_spelled, text_spelled, bool_spelled, int_spelled, double_spelled, array_spelled, pairs_spelled, bytes_spelled, counted_alone, key_counted}
use Rattle.message_attributes.proofs.any_written.+counting.Goals as goal

pub any_len-returns-in-Nothing-clause-counts : goal.any_len-returns-in-Nothing-clause-counts
any_len-returns-in-Nothing-clause-counts t c = rw c.in-Nothing.is (counted_alone _ _ _ nothing_spelled (count_none _ (omega arith)))

pub any_len-returns-in-Str-clause-counts : goal.any_len-returns-in-Str-clause-counts
any_len-returns-in-Str-clause-counts t c =
    let same = c.as_bytes.ensures.value ∙ c.as_str.ensures.value in
    rw c.in-Str.is (counted_alone _ _ _ (text_spelled c.in-Str.text) (rw same at c.count_content.ensures.counts))

pub any_len-returns-in-Bool-clause-counts : goal.any_len-returns-in-Bool-clause-counts
any_len-returns-in-Bool-clause-counts t c =
    let same : c.from.result ≡ cond c.in-Bool.flag 1 0 = search rules in
    rw c.in-Bool.is (counted_alone _ _ _ (bool_spelled c.in-Bool.flag) (rw same at c.count_number.ensures.counts))

pub any_len-returns-in-Int-clause-counts : goal.any_len-returns-in-Int-clause-counts
any_len-returns-in-Int-clause-counts t c =
    let same : c.cast_unsigned.result ≡ cast_unsigned w64 c.in-Int.number = search rules in
    rw c.in-Int.is (counted_alone _ _ _ (int_spelled c.in-Int.number) (rw same at c.count_number-in-Int.ensures.counts))

pub any_len-returns-in-Double-clause-counts : goal.any_len-returns-in-Double-clause-counts
any_len-returns-in-Double-clause-counts t c = rw c.in-Double.is (counted_alone _ _ _ (double_spelled c.in-Double.bits) (c.count_eight.ensures.counts c.in-Double.bits))

pub any_len-returns-in-Array : goal.any_len-returns-in-Array
any_len-returns-in-Array t c =
    let items = c.as_slice.ensures.value in
    rw c.in-Array.is (record {
      counts = counted_alone _ _ _ (array_spelled c.in-Array.values) (c.count_part.ensures.counts (canonical tables.ArrayValue (list_columns any_columns c.in-Array.values)) (rw items at c.array_len.ensures.counts));
      fits = rw any_array (refl, tt, (rw items at c.array_len.ensures.fits));
    })

pub any_len-returns-in-Pairs : goal.any_len-returns-in-Pairs
any_len-returns-in-Pairs t c =
    let items = c.as_slice-in-Pairs.ensures.value in
    rw c.in-Pairs.is (record {
      counts = counted_alone _ _ _ (pairs_spelled c.in-Pairs.pairs) (c.count_part-in-Pairs.ensures.counts (canonical tables.KeyValueList (list_columns pair_columns c.in-Pairs.pairs)) (rw items at c.kvlist_len.ensures.counts));
      fits = rw any_pairs (refl, tt, (rw items at c.kvlist_len.ensures.fits));
    })

pub any_len-returns-in-Bytes-clause-counts : goal.any_len-returns-in-Bytes-clause-counts
any_len-returns-in-Bytes-clause-counts t c =
    rw c.in-Bytes.is (counted_alone _ _ _ (bytes_spelled c.in-Bytes.bytes) (rw c.as_slice-in-Bytes.ensures.value at c.count_content-in-Bytes.ensures.counts))

pub array_len-loop-value-init : goal.array_len-loop-value-init
array_len-loop-value-init t c = record { bound = omega arith; counted = count_none 0 (omega arith); fit = tt }

pub array_len-loop-value-preserved : goal.array_len-loop-value-preserved
array_len-loop-value-preserved t c = record {
  bound = c.count_part-total.ensures.bound;
  counted = parts_counted (message_content any_columns tables.AnyValue) 1 c.args.values.now c.loop-value.value-index c.value-item.result 0 c.loop-value.total _ c.loop-value-test.true c.value-item.is c.loop-value.invariant.counted (c.count_part-total.ensures.counts _ c.any_len.ensures.counts);
  fit = hold_more (fits_message any_columns tables.AnyValue) c.args.values.now c.loop-value.value-index c.value-item.result c.loop-value-test.true c.value-item.is c.loop-value.invariant.fit c.any_len.ensures.fits;
}

pub array_len-returns : goal.array_len-returns
array_len-returns t c =
    let whole = column_bytes 1 (tables.Many tables.AnyValue) (Several (each_of any_columns c.args.values.now)) in
    record {
      counts = all_counted (message_content any_columns tables.AnyValue) 1 c.args.values.now c.loop-value.value-index 0 c.loop-value.total whole c.loop-value-test.false c.loop-value.invariant.counted (many_is any_columns 1 tables.AnyValue c.args.values.now) ∙ count_first whole;
      fits = (many_fit any_columns tables.AnyValue c.args.values.now (all_hold (fits_message any_columns tables.AnyValue) c.args.values.now c.loop-value.value-index c.loop-value-test.false c.loop-value.invariant.fit), tt);
    }

pub kvlist_len-loop-pair-init : goal.kvlist_len-loop-pair-init
kvlist_len-loop-pair-init t c = record { bound = omega arith; counted = count_none 0 (omega arith); fit = tt }

pub kvlist_len-loop-pair-preserved : goal.kvlist_len-loop-pair-preserved
kvlist_len-loop-pair-preserved t c = record {
  bound = c.count_part-total.ensures.bound;
  counted = parts_counted (message_content pair_columns tables.KeyValue) 1 c.args.pairs.now c.loop-pair.pair-index c.pair-item.result 0 c.loop-pair.total _ c.loop-pair-test.true c.pair-item.is c.loop-pair.invariant.counted (c.count_part-total.ensures.counts _ c.pair_len.ensures.counts);
  fit = hold_more (fits_message pair_columns tables.KeyValue) c.args.pairs.now c.loop-pair.pair-index c.pair-item.result c.loop-pair-test.true c.pair-item.is c.loop-pair.invariant.fit c.pair_len.ensures.fits;
}

pub kvlist_len-returns : goal.kvlist_len-returns
kvlist_len-returns t c =
    let whole = column_bytes 1 (tables.Many tables.KeyValue) (Several (each_of pair_columns c.args.pairs.now)) in
    record {
      counts = all_counted (message_content pair_columns tables.KeyValue) 1 c.args.pairs.now c.loop-pair.pair-index 0 c.loop-pair.total whole c.loop-pair-test.false c.loop-pair.invariant.counted (many_is pair_columns 1 tables.KeyValue c.args.pairs.now) ∙ count_first whole;
      fits = (many_fit pair_columns tables.KeyValue c.args.pairs.now (all_hold (fits_message pair_columns tables.KeyValue) c.args.pairs.now c.loop-pair.pair-index c.loop-pair-test.false c.loop-pair.invariant.fit), tt);
    }

pub pair_len-returns-in-None : goal.pair_len-returns-in-None
pair_len-returns-in-None t c = rw c.in-None.is (record { counts = key_counted _ _ c.count_text-total.ensures.counts; fits = (c.count_text-total.ensures.fits, (tt, tt)) })

pub pair_len-returns-in-Some : goal.pair_len-returns-in-Some
pair_len-returns-in-Some t c =
    rw c.in-Some.is (record {
      counts = entry_counted _ (part_spelling 2 (canonical tables.AnyValue (any_columns c.in-Some.any))) c.count_text-total.result c.count_part.result c.count_text-total.ensures.counts (c.count_part.ensures.counts (canonical tables.AnyValue (any_columns c.in-Some.any)) c.any_len.ensures.counts);
      fits = (c.count_text-total.ensures.fits, (c.any_len.ensures.fits, tt));
    })
