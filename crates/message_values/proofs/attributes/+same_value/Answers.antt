use Rattle.std.proofs.Common.{◌≡◌, ◌↔◌, IsTrue, ℕ, List, Bool, false, length, sym, ◌∙◌, ap}
use Rattle.message_values.specs.declared.attributes.AnyValue.TheVariants.{Str, Array, Pairs, Bytes, outs-Array, outs-Pairs}
use Rattle.message_values.specs.declared.attributes.AnyValue.TheOpen as layers
use Rattle.message_values.specs.declared.attributes.AnyValue.{AnyValue, out-AnyValue}
use Rattle.message_values.specs.declared.attributes.KeyValue.{KeyValue}
use Rattle.plain_values.proofs.ItemLemmas.{differ, agree, not_same, of_parts, other_item, same_more, same_all}
use Rattle.message_values.proofs.attributes.+same_value.Goals as goal

differs : {T : Type 0} (x y z : T) → x ≡ z → (y ≡ z → ⊥) → IsTrue false ↔ (x ≡ y)
differs x y z here there = differ x y (λ e. there (sym e ∙ here))

pub same_value-returns-in_default : goal.same_value-returns-in_default
same_value-returns-in_default t c = differs _ _ _ c.in_default.is-0 c.in_default.not-Nothing-1

pub same_value-returns-in_default-2 : goal.same_value-returns-in_default-2
same_value-returns-in_default-2 t c = differs _ _ _ c.in_default.is-0 (c.in_default.not-Str-1 c.in_default.field-0-0)

pub same_value-returns-in_default-3 : goal.same_value-returns-in_default-3
same_value-returns-in_default-3 t c = differs _ _ _ c.in_default.is-0 (c.in_default.not-Bool-1 c.in_default.field-0-0)

pub same_value-returns-in_default-4 : goal.same_value-returns-in_default-4
same_value-returns-in_default-4 t c = differs _ _ _ c.in_default.is-0 (c.in_default.not-Int-1 c.in_default.field-0-0)

pub same_value-returns-in_default-5 : goal.same_value-returns-in_default-5
same_value-returns-in_default-5 t c = differs _ _ _ c.in_default.is-0 (c.in_default.not-Double-1 c.in_default.field-0-0)

pub same_value-returns-in_default-6 : goal.same_value-returns-in_default-6
same_value-returns-in_default-6 t c = differs _ _ _ c.in_default.is-0 (c.in_default.not-Array-1 c.in_default.field-0-0)

pub same_value-returns-in_default-7 : goal.same_value-returns-in_default-7
same_value-returns-in_default-7 t c = differs _ _ _ c.in_default.is-0 (c.in_default.not-Pairs-1 c.in_default.field-0-0)

pub same_value-returns-in_default-8 : goal.same_value-returns-in_default-8
same_value-returns-in_default-8 t c = differs _ _ _ c.in_default.is-0 (c.in_default.not-Bytes-1 c.in_default.field-0-0)

str-inj : (a b : List ℕ) → Str a ≡ Str b → a ≡ b
str-inj a b e = cc

bytes-inj : (a b : List ℕ) → Bytes a ≡ Bytes b → a ≡ b
bytes-inj a b e = cc

array-inj : (a b : List AnyValue) → Array a ≡ Array b → a ≡ b
array-inj a b e = let open_same : layers.Array a ≡ layers.Array b = sym (outs-Array a) ∙ ap out-AnyValue e ∙ outs-Array b in cc open_same

pairs-inj : (a b : List KeyValue) → Pairs a ≡ Pairs b → a ≡ b
pairs-inj a b e = let open_same : layers.Pairs a ≡ layers.Pairs b = sym (outs-Pairs a) ∙ ap out-AnyValue e ∙ outs-Pairs b in cc open_same

at_slices : {T : Type 0} (a b x y : List T) (same : Bool) → x ≡ a → y ≡ b → (IsTrue same ↔ (x ≡ y)) → IsTrue same ↔ (a ≡ b)
at_slices a b x y same left right decides = ((λ t. sym left ∙ decides.0 t ∙ right), (λ e. decides.1 (left ∙ e ∙ sym right)))

pub same_value-returns-in-Str-Str : goal.same_value-returns-in-Str-Str
same_value-returns-in-Str-Str t c = let a = c.in-Str-Str in of_parts Str _ _ a.text a.that _ a.is-0 a.is-1 (str-inj _ _) c.same.ensures.same

pub same_value-returns-in-Bytes-Bytes : goal.same_value-returns-in-Bytes-Bytes
same_value-returns-in-Bytes-Bytes t c = let a = c.in-Bytes-Bytes in of_parts Bytes _ _ a.bytes a.that _ a.is-0 a.is-1 (bytes-inj _ _) c.same-in-Bytes-Bytes.ensures.same

pub same_value-returns-in-Array-Array : goal.same_value-returns-in-Array-Array
same_value-returns-in-Array-Array t c =
    let a = c.in-Array-Array in
    of_parts Array _ _ a.values a.those _ a.is-0 a.is-1 (array-inj _ _)
    (at_slices _ _ _ _ _ c.as_slice.ensures.value c.as_slice-in-Array-Array.ensures.value c.same_values.ensures)

pub same_value-returns-in-Pairs-Pairs : goal.same_value-returns-in-Pairs-Pairs
same_value-returns-in-Pairs-Pairs t c =
    let a = c.in-Pairs-Pairs in
    of_parts Pairs _ _ a.pairs a.those _ a.is-0 a.is-1 (pairs-inj _ _)
    (at_slices _ _ _ _ _ c.as_slice-in-Pairs-Pairs.ensures.value c.as_slice-in-Pairs-Pairs-2.ensures.value c.same_pairs.ensures)

pub same_pair-returns-then-not-same : goal.same_pair-returns-then-not-same
same_pair-returns-then-not-same t c = differ _ _ (λ e. not_same _ _ _ c.same.ensures.same c.if-not-same.true (λ i. (e i).key))

pub same_values-returns-then-values-others : goal.same_values-returns-then-values-others
same_values-returns-then-values-others t c = differ _ _ (λ e. c.if-values-others.true (ap length e))

pub same_values-returns-then-not-same_value : goal.same_values-returns-then-not-same_value
same_values-returns-then-not-same_value t c =
    differ _ _ (other_item _ _ c.if-values-others.false c.loop-i.i _ _ c.loop-i-test.true c.index-values-i.is c.index-others-i.is (not_same _ _ _ c.same_value.ensures c.if-not-same_value.true))

pub same_values-loop-i-preserved : goal.same_values-loop-i-preserved
same_values-loop-i-preserved t c =
    same_more _ _ c.if-values-others.false c.loop-i.i _ _ c.loop-i-test.true c.index-values-i.is c.index-others-i.is c.loop-i.invariant (c.same_value.ensures.0 c.if-not-same_value.false)

pub same_values-returns : goal.same_values-returns
same_values-returns t c = agree _ _ (same_all _ _ c.if-values-others.false c.loop-i.i c.loop-i-test.false c.loop-i.invariant)

pub same_pairs-returns-then-pairs-others : goal.same_pairs-returns-then-pairs-others
same_pairs-returns-then-pairs-others t c = differ _ _ (λ e. c.if-pairs-others.true (ap length e))

pub same_pairs-returns-then-not-same_pair : goal.same_pairs-returns-then-not-same_pair
same_pairs-returns-then-not-same_pair t c =
    differ _ _ (other_item _ _ c.if-pairs-others.false c.loop-i.i _ _ c.loop-i-test.true c.index-pairs-i.is c.index-others-i.is (not_same _ _ _ c.same_pair.ensures c.if-not-same_pair.true))

pub same_pairs-loop-i-preserved : goal.same_pairs-loop-i-preserved
same_pairs-loop-i-preserved t c =
    same_more _ _ c.if-pairs-others.false c.loop-i.i _ _ c.loop-i-test.true c.index-pairs-i.is c.index-others-i.is c.loop-i.invariant (c.same_pair.ensures.0 c.if-not-same_pair.false)

pub same_pairs-returns : goal.same_pairs-returns
same_pairs-returns t c = agree _ _ (same_all _ _ c.if-pairs-others.false c.loop-i.i c.loop-i-test.false c.loop-i.invariant)
