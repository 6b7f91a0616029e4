-- The columns of a value tell the value: no two values have the same columns.
use Rattle.std.proofs.Common.{◌≡◌, ℕ, zero, suc, ℤ, Bool, false, List, [], ◌∷◌, map, refl, ap, sym, ◌∙◌, subst, arith}
use Rattle.std.specs.Prelude.{Option, Some, None}
use Rattle.std.specs.List.{AllByRecursion}
use Rattle.plain_values.specs.declared.maps.Pair.{Pair}
use Rattle.message_values.specs.declared.attributes.AnyValue.{AnyValue, AnyValue-F, out-AnyValue, roll-AnyValue, roll-out-AnyValue, map-AnyValue, fold-roll-AnyValue, fold_out-AnyValue, ind-AnyValue}
use Rattle.message_values.specs.declared.attributes.AnyValue.TheOpen as layers
use Rattle.message_values.specs.declared.attributes.KeyValue.{KeyValue, KeyValue-F, out-KeyValue, roll-KeyValue, roll-out-KeyValue, map-KeyValue, fold-KeyValue, fold-roll-KeyValue, fold_out-KeyValue}
use Rattle.plain_values.specs.declared.files.AgentConfigFile.{AgentConfigFile}
use Rattle.plain_values.specs.declared.files.AgentConfigMap.{AgentConfigMap}
use Rattle.message_values.specs.declared.custom.CustomCapabilities.{CustomCapabilities}
use Rattle.message_values.specs.declared.custom.CustomMessage.{CustomMessage}
use Rattle.message_codec.specs.Values.{Value, Values, Number, Integer, Flag, Content, Contents, Absent, Present, Several, Chosen, End, And}
use Rattle.message_codec.specs.Means.{entry_of, entries_of}
use Rattle.message_codec.specs.Read.{one_of, raw_of, each_of}
use Rattle.message_attributes.specs.AnyColumns.{any_layer, pair_layer, any_columns, pair_columns}
use Rattle.message_attributes.specs.PartColumns.{config_file_columns, config_map_columns, custom_capabilities_columns, custom_message_columns}

-- ---- what a column holds

abbrev number_of : Value → ℕ
number_of (Number n) = n
number_of _ = 0

abbrev integer_of : ℤ → Value → ℤ
integer_of d (Integer z) = z
integer_of d _ = d

abbrev flag_of : Value → Bool
flag_of (Flag b) = b
flag_of _ = false

abbrev content_of : Value → List ℕ
content_of (Content bytes) = bytes
content_of _ = []

abbrev contents_of : Value → List (List ℕ)
contents_of (Contents texts) = texts
contents_of _ = []

-- the columns inside
abbrev pub inside : Value → Values
inside (Present vs) = vs
inside (Several vs) = vs
inside _ = End

abbrev pub column_at : ℕ → Values → Value
column_at n End = Absent
column_at zero (And v vs) = v
column_at (suc n) (And v vs) = column_at n vs

abbrev rest_of : Values → Values
rest_of End = End
rest_of (And v vs) = vs

pub number_tells : (m n : ℕ) → Number m ≡ Number n → m ≡ n
number_tells m n e = ap number_of e

pub integer_tells : (y z : ℤ) → Integer y ≡ Integer z → y ≡ z
integer_tells y z e = ap (integer_of y) e

pub flag_tells : (b c : Bool) → Flag b ≡ Flag c → b ≡ c
flag_tells b c e = ap flag_of e

pub content_tells : (bytes more : List ℕ) → Content bytes ≡ Content more → bytes ≡ more
content_tells bytes more e = ap content_of e

pub contents_tell : (texts more : List (List ℕ)) → Contents texts ≡ Contents more → texts ≡ more
contents_tell texts more e = ap contents_of e

pub raw_tells : (v w : Option (List ℕ)) → raw_of v ≡ raw_of w → v ≡ w
raw_tells None None e = refl
raw_tells None (Some w) e = cc
raw_tells (Some v) None e = cc
raw_tells (Some v) (Some w) e = ap (λ (x : Value). Some (content_of x)) e

-- ---- lists, maps and optional parts

-- no other value has the columns of this one
abbrev pub Tells : {T : Type 0} → (T → Values) → T → Type 0
Tells columns v = (w : _) → columns v ≡ columns w → v ≡ w

pub one_tells : {T : Type 0} (columns : T → Values) → ((v : T) → Tells columns v) → (v w : Option T) → one_of columns v ≡ one_of columns w → v ≡ w
one_tells columns tells None None e = refl
one_tells columns tells None (Some w) e = cc
one_tells columns tells (Some v) None e = cc
one_tells columns tells (Some v) (Some w) e = ap Some (tells v w (ap inside e))

pub each_tells : {T : Type 0} (columns : T → Values) (vs ws : List T) → AllByRecursion (Tells columns) vs → each_of columns vs ≡ each_of columns ws → vs ≡ ws
each_tells columns [] [] all e = refl
each_tells columns [] (w ∷ ws) all e = cc
each_tells columns (v ∷ vs) [] all e = cc
each_tells columns (v ∷ vs) (w ∷ ws) all e = λ i. all.0 w (ap (λ (x : Values). inside (column_at 0 x)) e) i ∷ each_tells columns vs ws all.1 (ap rest_of e) i

pub entry_tells : {T : Type 0} (columns : T → Values) (p q : Pair T) → Tells columns p.value → entry_of columns p ≡ entry_of columns q → p ≡ q
entry_tells columns p q tells e = λ i. record {
  key = content_tells p.key q.key (ap (column_at 0) e) i;
  value = tells q.value (ap (λ (x : Values). inside (column_at 1 x)) e) i;
}

pub entries_tell : {T : Type 0} (columns : T → Values) (ps qs : List (Pair T)) → AllByRecursion (λ p. Tells columns p.value) ps → entries_of columns ps ≡ entries_of columns qs → ps ≡ qs
entries_tell columns [] [] all e = refl
entries_tell columns [] (q ∷ qs) all e = cc
entries_tell columns (p ∷ ps) [] all e = cc
entries_tell columns (p ∷ ps) (q ∷ qs) all e = λ i. entry_tells columns p q all.0 (ap (λ (x : Values). inside (column_at 0 x)) e) i ∷ entries_tell columns ps qs all.1 (ap rest_of e) i

each_has : {T : Type 0} (P : T → Type 0) → ((v : T) → P v) → (vs : List T) → AllByRecursion P vs
each_has P has [] = tt
each_has P has (v ∷ vs) = (has v, each_has P has vs)

pub list_tells : {T : Type 0} (columns : T → Values) → ((v : T) → Tells columns v) → (vs ws : List T) → Several (each_of columns vs) ≡ Several (each_of columns ws) → vs ≡ ws
list_tells columns tells vs ws e = each_tells columns vs ws (each_has (Tells columns) tells vs) (ap inside e)

pub map_tells : {T : Type 0} (columns : T → Values) → ((v : T) → Tells columns v) → (ps qs : List (Pair T)) → Several (entries_of columns ps) ≡ Several (entries_of columns qs) → ps ≡ qs
map_tells columns tells ps qs e = entries_tell columns ps qs (each_has (λ p. Tells columns p.value) (λ p. tells p.value) ps) (ap inside e)

-- ---- a value of any kind

abbrev TellsPair : KeyValue → Type 0
TellsPair = Tells (fold-KeyValue Values Values any_layer pair_layer)

-- the values inside a layer, each with the proof that its columns tell it
abbrev Known : Type 0
Known = (a : AnyValue) × Tells any_columns a

abbrev KnownPair : Type 0
KnownPair = (p : KeyValue) × TellsPair p

abbrev firsts : AnyValue-F Known KnownPair → AnyValue-F AnyValue KeyValue
firsts = map-AnyValue Known KnownPair AnyValue KeyValue (λ e. e.0) (λ e. e.0)

-- the columns of a layer, seen through those of the values inside
abbrev shown : AnyValue-F AnyValue KeyValue → Values
shown l = any_layer (map-AnyValue AnyValue KeyValue Values Values any_columns (fold-KeyValue Values Values any_layer pair_layer) l)

-- the member that was chosen, and its number
abbrev chosen_in : Values → Value
chosen_in (And (Chosen n v) vs) = v
chosen_in _ = Absent

abbrev number_in : Values → ℕ
number_in (And (Chosen n v) vs) = n
number_in _ = 0

items_tell : {T : Type 0} (columns : T → Values) (us : List ((v : T) × Tells columns v)) (ws : List T) → each_of (λ v. v) (map columns (map (λ u. u.0) us)) ≡ each_of (λ v. v) (map columns ws) → map (λ u. u.0) us ≡ ws
items_tell columns [] [] e = refl
items_tell columns [] (w ∷ ws) e = cc
items_tell columns (u ∷ us) [] e = cc
items_tell columns (u ∷ us) (w ∷ ws) e = λ i. u.1 w (ap (λ (x : Values). inside (column_at 0 x)) e) i ∷ items_tell columns us ws (ap rest_of e) i

abbrev list_in : Values → Values
list_in vs = inside (column_at 0 (inside (chosen_in vs)))

-- members of two kinds differ in what they hold, or in their numbers
layer_tells : (y : AnyValue-F Known KnownPair) (l : AnyValue-F AnyValue KeyValue) → shown (firsts y) ≡ shown l → firsts y ≡ l
layer_tells layers.Nothing layers.Nothing e = refl
layer_tells (layers.Str s) (layers.Str t) e = ap layers.Str (content_tells s t (ap chosen_in e))
layer_tells (layers.Str s) (layers.Bytes t) e = absurd (omega (arith, ap number_in e))
layer_tells (layers.Bool b) (layers.Bool c) e = ap layers.Bool (flag_tells b c (ap chosen_in e))
layer_tells (layers.Int m) (layers.Int n) e = ap layers.Int (integer_tells m n (ap chosen_in e))
layer_tells (layers.Double m) (layers.Double n) e = ap layers.Double (number_tells m n (ap chosen_in e))
layer_tells (layers.Array us) (layers.Array vs) e = ap layers.Array (items_tell any_columns us vs (ap list_in e))
layer_tells (layers.Array us) (layers.Pairs qs) e = absurd (omega (arith, ap number_in e))
layer_tells (layers.Pairs us) (layers.Pairs qs) e = ap layers.Pairs (items_tell (fold-KeyValue Values Values any_layer pair_layer) us qs (ap list_in e))
layer_tells (layers.Pairs us) (layers.Array vs) e = absurd (omega (arith, ap number_in e))
layer_tells (layers.Bytes s) (layers.Bytes t) e = ap layers.Bytes (content_tells s t (ap chosen_in e))
layer_tells (layers.Bytes s) (layers.Str t) e = absurd (omega (arith, ap number_in e))
layer_tells y l e = cc

abbrev pair_firsts : KeyValue-F Known KnownPair → KeyValue-F AnyValue KeyValue
pair_firsts = map-KeyValue Known KnownPair AnyValue KeyValue (λ e. e.0) (λ e. e.0)

abbrev pair_shown : KeyValue-F AnyValue KeyValue → Values
pair_shown p = pair_layer (map-KeyValue AnyValue KeyValue Values Values any_columns (fold-KeyValue Values Values any_layer pair_layer) p)

pair_layer_tells : (key more : List ℕ) (u : Option Known) (w : Option AnyValue) → pair_shown (pair_firsts (record { key = key; value = u })) ≡ pair_shown (record { key = more; value = w })
    → pair_firsts (record { key = key; value = u }) ≡ record { key = more; value = w }
pair_layer_tells key more None None e = λ i. record { key = content_tells key more (ap (column_at 0) e) i; value = None }
pair_layer_tells key more None (Some w) e = cc
pair_layer_tells key more (Some u) None e = cc
pair_layer_tells key more (Some u) (Some w) e = λ i. record { key = content_tells key more (ap (column_at 0) e) i; value = Some (u.1 w (ap (λ (x : Values). inside (column_at 1 x)) e) i) }

any_step : (x : AnyValue-F AnyValue KeyValue) (y : AnyValue-F Known KnownPair) → firsts y ≡ x → Tells any_columns (roll-AnyValue x)
any_step x y is b e =
    let told = subst (λ z. shown z ≡ shown (out-AnyValue b) → z ≡ out-AnyValue b) is (layer_tells y (out-AnyValue b)) in
    ap roll-AnyValue (told (sym (fold-roll-AnyValue Values Values any_layer pair_layer x) ∙ e ∙ fold_out-AnyValue Values Values any_layer pair_layer b)) ∙ roll-out-AnyValue b

pair_step : (x : KeyValue-F AnyValue KeyValue) (y : KeyValue-F Known KnownPair) → pair_firsts y ≡ x → TellsPair (roll-KeyValue x)
pair_step x y is q e =
    let told = subst (λ z. pair_shown z ≡ pair_shown (out-KeyValue q) → z ≡ out-KeyValue q) is (pair_layer_tells y.key (out-KeyValue q).key y.value (out-KeyValue q).value) in
    ap roll-KeyValue (told (sym (fold-roll-KeyValue Values Values any_layer pair_layer x) ∙ e ∙ fold_out-KeyValue Values Values any_layer pair_layer q)) ∙ roll-out-KeyValue q

pub any_columns_tell : (a b : AnyValue) → any_columns a ≡ any_columns b → a ≡ b
any_columns_tell = ind-AnyValue (Tells any_columns) TellsPair any_step pair_step

pub pair_columns_tell : (p q : KeyValue) → pair_columns p ≡ pair_columns q → p ≡ q
pair_columns_tell p q e = λ i. record {
  key = content_tells p.key q.key (ap (column_at 0) e) i;
  value = one_tells any_columns any_columns_tell p.value q.value (ap (column_at 1) e) i;
}

-- ---- the flat parts

pub config_file_columns_tell : (f g : AgentConfigFile) → config_file_columns f ≡ config_file_columns g → f ≡ g
config_file_columns_tell f g e = λ i. record { body = content_tells _ _ (ap (column_at 0) e) i; content_type = content_tells _ _ (ap (column_at 1) e) i }

pub config_map_columns_tell : (c d : AgentConfigMap) → config_map_columns c ≡ config_map_columns d → c ≡ d
config_map_columns_tell c d e = λ i. record { config_map = map_tells config_file_columns config_file_columns_tell _ _ (ap (column_at 0) e) i }

pub custom_capabilities_columns_tell : (c d : CustomCapabilities) → custom_capabilities_columns c ≡ custom_capabilities_columns d → c ≡ d
custom_capabilities_columns_tell c d e = λ i. record { capabilities = contents_tell _ _ (ap (column_at 0) e) i }

pub custom_message_columns_tell : (m n : CustomMessage) → custom_message_columns m ≡ custom_message_columns n → m ≡ n
custom_message_columns_tell m n e = λ i. record {
  capability = content_tells _ _ (ap (column_at 0) e) i;
  kind = content_tells _ _ (ap (column_at 1) e) i;
  body = content_tells _ _ (ap (column_at 2) e) i;
}
