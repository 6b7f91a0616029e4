-- The columns of a value of any kind, variant by variant.
use Rattle.std.proofs.Common.{◌≡◌, ℕ, ℤ, List, [], ◌∷◌, Bool, true, false, map, nat_eq, refl, ap, sym, ◌∙◌, arith, inl, inr}
use Rattle.std.proofs.lemmas.Bool.Decides.{nat_tests}
use Rattle.std.specs.Prelude.{IsUtf8, Option, Some, None}
use Rattle.std.specs.Int.{w64, cast_signed}
use Rattle.message_values.specs.declared.attributes.AnyValue.{AnyValue, AnyValue-F, fold_out-AnyValue, fold-roll-AnyValue}
use Rattle.message_values.specs.declared.attributes.AnyValue.TheVariants as variants
use Rattle.message_values.specs.declared.attributes.AnyValue.TheOpen as layers
use Rattle.message_values.specs.declared.attributes.KeyValue.{KeyValue, fold-KeyValue, fold_out-KeyValue, map-KeyValue}
use Rattle.message_codec.specs.Fields.{Payload, Varint, Eight, Bytes}
use Rattle.message_codec.specs.Tables.{Name, Kind, One, Truth, Signed, Double, Text, Blob}
use Rattle.message_codec.specs.Values as vals
use Rattle.message_codec.specs.Values.{Value, Values, End, And, Number, Integer, Flag, Content, Absent, Present, Several, Chosen}
use Rattle.message_codec.specs.Means.{Means, ColumnMeans, is_set}
use Rattle.message_codec.specs.Read.{one_of, each_of}
use Rattle.message_codec.specs.Reads.{TakesChosen, Chose, Takes}
use Rattle.message_attributes.specs.AnyColumns.{any_layer, pair_layer, any_columns, pair_columns, list_columns, chosen, member_of}
use Rattle.message_codec.proofs.ColumnLaws.{truth_takes, signed_takes, double_takes, text_takes, blob_takes}

layer_shape : (l : AnyValue-F Values Values) → any_layer l ≡ And (member_of (any_layer l)) End
layer_shape layers.Nothing = refl
layer_shape (layers.Str s) = refl
layer_shape (layers.Bool b) = refl
layer_shape (layers.Int n) = refl
layer_shape (layers.Double n) = refl
layer_shape (layers.Array vs) = refl
layer_shape (layers.Pairs ps) = refl
layer_shape (layers.Bytes b) = refl

pub any_shape : (a : AnyValue) → any_columns a ≡ And (member_of (any_columns a)) End
any_shape a = let e = fold_out-AnyValue Values Values any_layer pair_layer a in e ∙ layer_shape _ ∙ ap (λ (vs : Values). And (member_of vs) End) (sym e)

pub any_text : (text : List ℕ) → any_columns (variants.Str text) ≡ chosen 1 (Content text)
any_text text = ap any_columns (sym (variants.rolls-Str text)) ∙ fold-roll-AnyValue Values Values any_layer pair_layer (layers.Str text)

pub any_bool : (b : Bool) → any_columns (variants.Bool b) ≡ chosen 2 (Flag b)
any_bool b = ap any_columns (sym (variants.rolls-Bool b)) ∙ fold-roll-AnyValue Values Values any_layer pair_layer (layers.Bool b)

pub any_int : (n : ℤ) → any_columns (variants.Int n) ≡ chosen 3 (Integer n)
any_int n = ap any_columns (sym (variants.rolls-Int n)) ∙ fold-roll-AnyValue Values Values any_layer pair_layer (layers.Int n)

pub any_double : (n : ℕ) → any_columns (variants.Double n) ≡ chosen 4 (Number n)
any_double n = ap any_columns (sym (variants.rolls-Double n)) ∙ fold-roll-AnyValue Values Values any_layer pair_layer (layers.Double n)

pub any_bytes : (bytes : List ℕ) → any_columns (variants.Bytes bytes) ≡ chosen 7 (Content bytes)
any_bytes bytes = ap any_columns (sym (variants.rolls-Bytes bytes)) ∙ fold-roll-AnyValue Values Values any_layer pair_layer (layers.Bytes bytes)

each_map : {T : Type 0} (f g : T → Values) (vs : List T) → ((v : T) → f v ≡ g v) → each_of (λ v. v) (map f vs) ≡ each_of g vs
each_map f g [] e = refl
each_map f g (v ∷ vs) e = ap (λ (x : Values). And (Present x) (each_of (λ v. v) (map f vs))) (e v) ∙ ap (λ (xs : Values). And (Present (g v)) xs) (each_map f g vs e)

layer_seen : (key : List ℕ) (value : Option AnyValue) → pair_layer (map-KeyValue AnyValue KeyValue Values Values any_columns (fold-KeyValue Values Values any_layer pair_layer) (record { key = key; value = value })) ≡ And (Content key) (And (one_of any_columns value) End)
layer_seen key None = refl
layer_seen key (Some a) = refl

pair_seen : (p : KeyValue) → fold-KeyValue Values Values any_layer pair_layer p ≡ pair_columns p
pair_seen p = fold_out-KeyValue Values Values any_layer pair_layer p ∙ layer_seen p.key p.value

member_list : ℕ → Values → Values
member_list number vs = chosen number (Present (And (Several vs) End))

pub any_array : (vs : List AnyValue) → any_columns (variants.Array vs) ≡ chosen 5 (Present (list_columns any_columns vs))
unfolding member_list
any_array vs = ap any_columns (sym (variants.rolls-Array vs)) ∙ fold-roll-AnyValue Values Values any_layer pair_layer (layers.Array vs) ∙ ap (member_list 5) (each_map any_columns any_columns vs (λ v. refl))

pub any_pairs : (ps : List KeyValue) → any_columns (variants.Pairs ps) ≡ chosen 6 (Present (list_columns pair_columns ps))
unfolding member_list
any_pairs ps = ap any_columns (sym (variants.rolls-Pairs ps)) ∙ fold-roll-AnyValue Values Values any_layer pair_layer (layers.Pairs ps) ∙ ap (member_list 6) (each_map (fold-KeyValue Values Values any_layer pair_layer) pair_columns ps pair_seen)

eqb-true : (x y : ℕ) → nat_eq x y ≡ true → x ≡ y
eqb-true x y e = grind (arith, nat_tests)

eqb-false : (x y : ℕ) → nat_eq x y ≡ false → x ≡ y → ⊥
eqb-false x y e p = grind (arith, nat_tests)

same_number : (m n : ℕ) (x y : Value) → Chosen m x ≡ Chosen n y → m ≡ n
same_number m n x y e = cc

either : (below : ℕ) (kind : Kind) (number m : ℕ) (y d : Value) (b : Bool) → nat_eq m number ≡ b → ColumnMeans (Means below) kind [] d → (x : Value) × Chose below kind number (Chosen m y) x
either below kind number m y d true e h = (y, inl (ap (λ (n : ℕ). Chosen n y) (eqb-true m number e)))
either below kind number m y d false e h = (d, inr (λ z p. eqb-false m number e (same_number m number y z p), h))

pub choose : (below : ℕ) (kind : Kind) (number : ℕ) (v d : Value) → ColumnMeans (Means below) kind [] d → (x : Value) × Chose below kind number v x
choose below kind number (Chosen m y) d h = either below kind number m y d (nat_eq m number) refl h
choose below kind number (Number n) d h = (d, inr (λ z p. cc, h))
choose below kind number (Integer n) d h = (d, inr (λ z p. cc, h))
choose below kind number (Flag b) d h = (d, inr (λ z p. cc, h))
choose below kind number (Content b) d h = (d, inr (λ z p. cc, h))
choose below kind number (vals.Contents b) d h = (d, inr (λ z p. cc, h))
choose below kind number Absent d h = (d, inr (λ z p. cc, h))
choose below kind number (Present vs) d h = (d, inr (λ z p. cc, h))
choose below kind number (Several vs) d h = (d, inr (λ z p. cc, h))

pub text_chosen : (bytes : List ℕ) (v : Value) → IsUtf8 bytes → TakesChosen 0 Text 1 (Bytes bytes) v (Chosen 1 (Content bytes))
text_chosen bytes v u =
    let c = choose 0 Text 1 v (Content []) refl in
    record { before = c.0; after = Content bytes; chose = c.1; takes = text_takes bytes c.0 u; chosen = refl }

pub truth_chosen : (x : ℕ) (v : Value) → TakesChosen 0 Truth 2 (Varint x) v (Chosen 2 (Flag (is_set x)))
truth_chosen x v =
    let c = choose 0 Truth 2 v (Flag false) refl in
    record { before = c.0; after = Flag (is_set x); chose = c.1; takes = truth_takes x c.0; chosen = refl }

pub signed_chosen : (x : ℕ) (v : Value) → TakesChosen 0 Signed 3 (Varint x) v (Chosen 3 (Integer (cast_signed w64 x)))
signed_chosen x v =
    let c = choose 0 Signed 3 v (Integer (cast_signed w64 0)) refl in
    record { before = c.0; after = Integer (cast_signed w64 x); chose = c.1; takes = signed_takes x c.0; chosen = refl }

pub double_chosen : (x : ℕ) (v : Value) → TakesChosen 0 Double 4 (Eight x) v (Chosen 4 (Number x))
double_chosen x v =
    let c = choose 0 Double 4 v (Number 0) refl in
    record { before = c.0; after = Number x; chose = c.1; takes = double_takes x c.0; chosen = refl }

pub blob_chosen : (bytes : List ℕ) (v : Value) → TakesChosen 0 Blob 7 (Bytes bytes) v (Chosen 7 (Content bytes))
blob_chosen bytes v =
    let c = choose 0 Blob 7 v (Content []) refl in
    record { before = c.0; after = Content bytes; chose = c.1; takes = blob_takes bytes c.0; chosen = refl }

pub member_chosen : (below number : ℕ) (name : Name) (p : Payload) (v x y : Value) → Chose 0 (One name) number v x → Takes below (One name) p x y → TakesChosen below (One name) number p v (Chosen number y)
member_chosen below number name p v x y c t = record { before = x; after = y; chose = c; takes = t; chosen = refl }
