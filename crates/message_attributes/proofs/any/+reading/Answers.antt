use Rattle.std.proofs.Common.{refl, arith}
use Rattle.std.specs.Prelude.{Result, Ok, Err, OnOk, IsOk}
use Rattle.message_codec.specs.Tables as tables
use Rattle.message_attributes.specs.AnyColumns.{any_columns, pair_columns}
use Rattle.message_codec.proofs.ColumnLaws.{skips, not_bytes}
use Rattle.message_codec.proofs.Reading.{turn, one_takes, many_takes, each_push}
use Rattle.message_attributes.proofs.AnyLaws.{any_shape, any_array, any_pairs, member_chosen}
use Rattle.message_attributes.proofs.any.+reading.Goals as goal

was_read : {T E : Type 0} (r : Result T E) (P : Type 0) → IsOk r → OnOk r P → P
was_read (Ok x) P ok h = h
was_read (Err e) P ok h = absurd cc

pub read_any_into-loop-at-preserved : goal.read_any_into-loop-at-preserved
read_any_into-loop-at-preserved t c =
    let read = c.in_ok-item.ensures in
    let took = rw (← c.in_ok-in_message.ensures.same) at c.take_any-taken.ensures.ok in
    record { within = read.read.fits; reads = turn c.args.below tables.AnyValue c.args.bytes.now c.loop-at.at c.in_ok-item.item _ _ _ read.begins read.read took c.loop-at.invariant.reads }

pub read_array_into-loop-at-preserved : goal.read_array_into-loop-at-preserved
read_array_into-loop-at-preserved t c =
    let read = c.in_ok-item.ensures in
    let took = rw (← c.in_ok-in_message.ensures.same) at c.take_in_array-taken.ensures.ok in
    record { within = read.read.fits; reads = turn c.args.below tables.ArrayValue c.args.bytes.now c.loop-at.at c.in_ok-item.item _ _ _ read.begins read.read took c.loop-at.invariant.reads }

pub read_kvlist_into-loop-at-preserved : goal.read_kvlist_into-loop-at-preserved
read_kvlist_into-loop-at-preserved t c =
    let read = c.in_ok-item.ensures in
    let took = rw (← c.in_ok-in_message.ensures.same) at c.take_in_kvlist-taken.ensures.ok in
    record { within = read.read.fits; reads = turn c.args.below tables.KeyValueList c.args.bytes.now c.loop-at.at c.in_ok-item.item _ _ _ read.begins read.read took c.loop-at.invariant.reads }

pub read_pair_into-loop-at-preserved : goal.read_pair_into-loop-at-preserved
read_pair_into-loop-at-preserved t c =
    let read = c.in_ok-item.ensures in
    let took = rw (← c.in_ok-in_message.ensures.same) at c.take_in_pair-taken.ensures.ok in
    record { within = read.read.fits; reads = turn c.args.below tables.KeyValue c.args.bytes.now c.loop-at.at c.in_ok-item.item _ _ _ read.begins read.read took c.loop-at.invariant.reads }

pub take_array-returns-in_ok-in_field-clause-ok : goal.take_array-returns-in_ok-in_field-clause-ok
take_array-returns-in_ok-in_field-clause-ok t c =
    let begun = c.begun_array-values.ensures in
    let reads = was_read _ _ c.in_ok-in_field.ensures.ok c.read_array_into-read.ensures.ok in
    let takes = one_takes c.args.below tables.ArrayValue _ _ _ _ (omega arith) begun.1 reads in
    rw (c.set.ensures, c.requires.number, c.in-Bytes.is, any_array, any_shape c.args.any.now) (member_chosen c.args.below 5 tables.ArrayValue _ _ _ _ begun.0 takes)

pub take_array-returns-in_default-clause-ok : goal.take_array-returns-in_default-clause-ok
take_array-returns-in_default-clause-ok t c = rw (c.requires.number, any_shape c.args.any.now, not_bytes c.args.bytes.now c.args.item.now.value c.in_default.not-Bytes) refl

pub take_kvlist-returns-in_ok-in_field-clause-ok : goal.take_kvlist-returns-in_ok-in_field-clause-ok
take_kvlist-returns-in_ok-in_field-clause-ok t c =
    let begun = c.begun_pairs-pairs.ensures in
    let reads = was_read _ _ c.in_ok-in_field.ensures.ok c.read_kvlist_into-read.ensures.ok in
    let takes = one_takes c.args.below tables.KeyValueList _ _ _ _ (omega arith) begun.1 reads in
    rw (c.set.ensures, c.requires.number, c.in-Bytes.is, any_pairs, any_shape c.args.any.now) (member_chosen c.args.below 6 tables.KeyValueList _ _ _ _ begun.0 takes)

pub take_kvlist-returns-in_default-clause-ok : goal.take_kvlist-returns-in_default-clause-ok
take_kvlist-returns-in_default-clause-ok t c = rw (c.requires.number, any_shape c.args.any.now, not_bytes c.args.bytes.now c.args.item.now.value c.in_default.not-Bytes) refl

pub take_value-returns-in_ok-push_read-clause-ok : goal.take_value-returns-in_ok-push_read-clause-ok
take_value-returns-in_ok-push_read-clause-ok t c =
    let pushed = c.in_ok-push_read.ensures.ok in
    let reads = was_read _ _ (was_read _ _ pushed.0 c.in_field-read.ensures.ok) c.read_any_into-read.ensures.ok in
    rw (c.in-Bytes.is, pushed.1, each_push any_columns c.args.values.now _) (many_takes c.args.below tables.AnyValue _ _ _ (omega arith) (rw c.nothing-value.ensures.empty at reads))

pub take_value-returns-in_default-clause-ok : goal.take_value-returns-in_default-clause-ok
take_value-returns-in_default-clause-ok t c = skips c.args.below (tables.Many tables.AnyValue) _ _ (not_bytes c.args.bytes.now c.args.item.now.value c.in_default.not-Bytes)

pub take_pair-returns-in_ok-push_read-clause-ok : goal.take_pair-returns-in_ok-push_read-clause-ok
take_pair-returns-in_ok-push_read-clause-ok t c =
    let pushed = c.in_ok-push_read.ensures.ok in
    let reads = was_read _ _ (was_read _ _ pushed.0 c.in_field-read.ensures.ok) c.read_pair_into-read.ensures.ok in
    rw (c.in-Bytes.is, pushed.1, each_push pair_columns c.args.pairs.now _) (many_takes c.args.below tables.KeyValue _ _ _ (omega arith) (rw c.empty_pair-pair.ensures.empty at reads))

pub take_pair-returns-in_default-clause-ok : goal.take_pair-returns-in_default-clause-ok
take_pair-returns-in_default-clause-ok t c = skips c.args.below (tables.Many tables.KeyValue) _ _ (not_bytes c.args.bytes.now c.args.item.now.value c.in_default.not-Bytes)

pub take_pair_value-returns-in_ok-in_field-clause-ok : goal.take_pair_value-returns-in_ok-in_field-clause-ok
take_pair_value-returns-in_ok-in_field-clause-ok t c =
    let reads = was_read _ _ c.in_ok-in_field.ensures.ok c.read_any_into-read.ensures.ok in
    rw (c.set_value.ensures, c.in-Bytes.is) (one_takes c.args.below tables.AnyValue _ _ _ _ (omega arith) c.begun_value-any.ensures reads)

pub take_pair_value-returns-in_default-clause-ok : goal.take_pair_value-returns-in_default-clause-ok
take_pair_value-returns-in_default-clause-ok t c = skips c.args.below (tables.One tables.AnyValue) _ _ (not_bytes c.args.bytes.now c.args.item.now.value c.in_default.not-Bytes)
