use Rattle.std.proofs.Common.{◌≡◌, ◌∙◌, ℕ, List, ap, sym, codes, refl}
use Rattle.std.proofs.lemmas.Result.{on_ok_weaker}
use Rattle.message_codec.specs.Tables as tables
use Rattle.message_attributes.specs.AnyColumns.{any_columns, pair_columns, list_columns}
use Rattle.message_texts.specs.Words.{under, item_path}
use Rattle.message_texts.proofs.Lines.{behind, closes_part, items_more, items_all, many_is, message_text}
use Rattle.message_texts.proofs.AnyLines.{nothing_shown, text_shown, bool_shown, int_shown, double_shown, array_shown, kvlist_shown, bytes_shown, values_shown, pairs_shown, key_shown, pair_shown}
use Rattle.message_texts.proofs.attributes.+showing.Goals as goal

pub show_any-returns-in-Nothing : goal.show_any-returns-in-Nothing
show_any-returns-in-Nothing t c = rw c.in-Nothing.is (record { ok = sym (nothing_shown c.args.page.now c.args.path.now) })

pub show_any-returns-in-Str : goal.show_any-returns-in-Str
show_any-returns-in-Str t c = rw c.in-Str.is (record { ok = on_ok_weaker c.put_text_under.result (λ shows. shows ∙ sym (text_shown c.args.page.now c.args.path.now c.in-Str.text)) c.put_text_under.ensures.ok })

pub show_any-returns-in-Bool : goal.show_any-returns-in-Bool
show_any-returns-in-Bool t c = rw c.in-Bool.is (record { ok = on_ok_weaker c.put_truth_under.result (λ shows. shows ∙ sym (bool_shown c.args.page.now c.args.path.now c.in-Bool.flag)) c.put_truth_under.ensures.ok })

pub show_any-returns-in-Int : goal.show_any-returns-in-Int
show_any-returns-in-Int t c = rw c.in-Int.is (record { ok = on_ok_weaker c.put_integer_under.result (λ shows. shows ∙ sym (int_shown c.args.page.now c.args.path.now c.in-Int.number)) c.put_integer_under.ensures.ok })

pub show_any-returns-in-Double : goal.show_any-returns-in-Double
show_any-returns-in-Double t c = rw c.in-Double.is (record { ok = on_ok_weaker c.put_double_under.result (λ shows. shows ∙ sym (double_shown c.args.page.now c.args.path.now c.in-Double.bits)) c.put_double_under.ensures.ok })

pub show_any-returns-in-Array : goal.show_any-returns-in-Array
show_any-returns-in-Array t c = rw c.in-Array.is (record { ok = on_ok_weaker c.show_array.result (λ shows. shows ∙ sym (array_shown c.args.page.now c.args.path.now c.in-Array.values)) (rw c.as_slice.ensures.value at c.show_array.ensures.ok) })

pub show_any-returns-in-Pairs : goal.show_any-returns-in-Pairs
show_any-returns-in-Pairs t c = rw c.in-Pairs.is (record { ok = on_ok_weaker c.show_kvlist.result (λ shows. shows ∙ sym (kvlist_shown c.args.page.now c.args.path.now c.in-Pairs.pairs)) (rw c.as_slice-in-Pairs.ensures.value at c.show_kvlist.ensures.ok) })

pub show_any-returns-in-Bytes : goal.show_any-returns-in-Bytes
show_any-returns-in-Bytes t c = rw c.in-Bytes.is (record { ok = on_ok_weaker c.put_bytes_under.result (λ shows. shows ∙ sym (bytes_shown c.args.page.now c.args.path.now c.in-Bytes.bytes)) c.put_bytes_under.ensures.ok })

pub show_value-returns : goal.show_value-returns
show_value-returns t c =
    record { ok = closes_part c.show_any-shown.result c.close.result c.args.page.now c.show_any-shown.new.page c.close.new.page c.args.place.path c.args.place.path c.args.place.before tables.AnyValue (any_columns c.args.value.now) refl c.requires.before (rw c.path.ensures.value at c.show_any-shown.ensures.ok) c.close.ensures.shown c.close.ensures.ok }

pub show_array-returns : goal.show_array-returns
show_array-returns t c =
    record { ok = closes_part c.show_values-shown.result c.close.result c.args.page.now c.show_values-shown.new.page c.close.new.page (under c.args.path.now (codes "array_value")) c.in_ok-place.place.path c.in_ok-place.place.before tables.ArrayValue (list_columns any_columns c.args.values.now) c.in_ok-place.ensures.path c.in_ok-place.ensures.before (rw c.path.ensures.value at c.show_values-shown.ensures.ok) c.close.ensures.shown c.close.ensures.ok }

pub show_values-loop-i-preserved : goal.show_values-loop-i-preserved
show_values-loop-i-preserved t c =
    let field = under c.args.path.now (codes "values") in
    let item : c.in_ok-item.item.path ≡ item_path (under c.args.path.now (codes "values")) c.loop-i.i = c.in_ok-item.ensures.path ∙ ap (λ (p : List ℕ). item_path p c.loop-i.i) (c.path.ensures.value ∙ c.in_ok-field.ensures.path) in
    items_more (message_text any_columns tables.AnyValue field) c.args.values.now c.loop-i.i c.index-values-i.result c.args.page.now c.loop-i.page c.show_value.new.page c.loop-i-test.true c.index-values-i.is c.loop-i.invariant (rw item at c.in_ok-show_value.ensures.ok)

pub show_values-returns : goal.show_values-returns
show_values-returns t c =
    let field = under c.args.path.now (codes "values") in
    let all = items_all (message_text any_columns tables.AnyValue field) c.args.values.now c.loop-i.i c.args.page.now c.loop-i.page _ c.loop-i-test.false c.loop-i.invariant (many_is any_columns tables.AnyValue field 0 c.args.values.now) in
    record { ok = all ∙ sym (values_shown c.args.page.now c.args.path.now c.args.values.now) }

pub show_kvlist-returns : goal.show_kvlist-returns
show_kvlist-returns t c =
    record { ok = closes_part c.show_pairs-shown.result c.close.result c.args.page.now c.show_pairs-shown.new.page c.close.new.page (under c.args.path.now (codes "kvlist_value")) c.in_ok-place.place.path c.in_ok-place.place.before tables.KeyValueList (list_columns pair_columns c.args.pairs.now) c.in_ok-place.ensures.path c.in_ok-place.ensures.before (rw c.path.ensures.value at c.show_pairs-shown.ensures.ok) c.close.ensures.shown c.close.ensures.ok }

pub show_pairs-loop-i-preserved : goal.show_pairs-loop-i-preserved
show_pairs-loop-i-preserved t c =
    let field = under c.args.path.now (codes "values") in
    let item : c.in_ok-item.item.path ≡ item_path (under c.args.path.now (codes "values")) c.loop-i.i = c.in_ok-item.ensures.path ∙ ap (λ (p : List ℕ). item_path p c.loop-i.i) (c.path.ensures.value ∙ c.in_ok-field.ensures.path) in
    items_more (message_text pair_columns tables.KeyValue field) c.args.pairs.now c.loop-i.i c.index-pairs-i.result c.args.page.now c.loop-i.page c.show_item.new.page c.loop-i-test.true c.index-pairs-i.is c.loop-i.invariant (rw item at c.in_ok-show_item.ensures.ok)

pub show_pairs-returns : goal.show_pairs-returns
show_pairs-returns t c =
    let field = under c.args.path.now (codes "values") in
    let all = items_all (message_text pair_columns tables.KeyValue field) c.args.pairs.now c.loop-i.i c.args.page.now c.loop-i.page _ c.loop-i-test.false c.loop-i.invariant (many_is pair_columns tables.KeyValue field 0 c.args.pairs.now) in
    record { ok = all ∙ sym (pairs_shown c.args.page.now c.args.path.now c.args.pairs.now) }

pub show_item-returns : goal.show_item-returns
show_item-returns t c =
    record { ok = closes_part c.show_pair-shown.result c.close.result c.args.page.now c.show_pair-shown.new.page c.close.new.page c.args.place.path c.args.place.path c.args.place.before tables.KeyValue (pair_columns c.args.pair.now) refl c.requires.before (rw c.path.ensures.value at c.show_pair-shown.ensures.ok) c.close.ensures.shown c.close.ensures.ok }

pub show_pair-returns-in_ok-place-in-Some : goal.show_pair-returns-in_ok-place-in-Some
show_pair-returns-in_ok-place-in-Some t c =
    let part = rw c.in_ok-place-in-Some.ensures.path at c.show_value.ensures.ok in
    rw c.in-Some.is (record { ok = on_ok_weaker c.show_value.result (λ lines. behind _ c.in_ok-show_text.ensures.ok lines ∙ sym (pair_shown c.args.page.now c.args.path.now c.args.pair.now.key c.in-Some.value)) part })

pub show_pair-returns-in-None : goal.show_pair-returns-in-None
show_pair-returns-in-None t c = rw c.in-None.is (record { ok = c.in_ok-show_text.ensures.ok ∙ sym (key_shown c.args.page.now c.args.path.now c.args.pair.now.key) })
