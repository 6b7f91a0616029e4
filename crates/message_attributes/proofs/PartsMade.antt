-- Attributes and the other shared parts that bytes mean are values.
use Rattle.std.proofs.Common.{◌≡◌, ℕ, zero, suc, Bool, true, false, cond, nat_eq, List, [], ◌∷◌, ◌++◌, refl, ap, sym, ◌∙◌, inl, inr}
use Rattle.std.proofs.lemmas.List.Elements.{filter_map-append}
use Rattle.std.specs.List.{filter_map}
use Rattle.std.specs.Prelude.{Option, Some, None}
use Rattle.message_values.specs.declared.attributes.AnyValue.{AnyValue, fold-roll-AnyValue}
use Rattle.message_values.specs.declared.attributes.AnyValue.TheVariants as variants
use Rattle.message_values.specs.declared.attributes.AnyValue.TheOpen as layers
use Rattle.message_values.specs.declared.attributes.KeyValue.{KeyValue}
use Rattle.plain_values.specs.declared.files.AgentConfigFile.{AgentConfigFile}
use Rattle.plain_values.specs.declared.files.AgentConfigMap.{AgentConfigMap}
use Rattle.message_values.specs.declared.custom.CustomCapabilities.{CustomCapabilities}
use Rattle.message_values.specs.declared.custom.CustomMessage.{CustomMessage}
use Rattle.message_codec.specs.Fields.{Payload, WireField, wire_type}
use Rattle.message_codec.specs.Fields as wire
use Rattle.message_codec.specs.Tables as tables
use Rattle.message_codec.specs.Tables.{Kind, Name, Row, rows_of, kind_at}
use Rattle.message_codec.specs.Values.{Value, Values, Absent, Present, End, And}
use Rattle.message_codec.specs.Means.{Means, ColumnMeans, MeansOne, MeansChosen, MeansMember, Member, seen, extended, last_member, is_of, content_in, joined}
use Rattle.message_attributes.specs.AnyColumns.{any_layer, pair_layer, any_columns, pair_columns, list_columns, chosen}
use Rattle.message_attributes.specs.PartColumns.{config_file_columns, config_map_columns, custom_capabilities_columns, custom_message_columns}
use Rattle.message_attributes.proofs.AnyLaws.{any_text, any_bool, any_int, any_double, any_array, any_pairs, any_bytes}
use Rattle.message_attributes.proofs.Made.{IsMade, Columns, in_columns, with_column, one_made, many_made, keyed_made, any_entry_made, IsRow, in_rows}

-- ---- attributes

-- values and what holds them, so many levels deep
record AttributesMade (levels : ℕ) : Type 0 where
  any : IsMade levels tables.AnyValue any_columns
  pair : IsMade levels tables.KeyValue pair_columns
  array : IsMade levels tables.ArrayValue (list_columns any_columns)
  pairs : IsMade levels tables.KeyValueList (list_columns pair_columns)

pair_step : (below : ℕ) → AttributesMade below → IsMade (suc below) tables.KeyValue pair_columns
pair_step below made bytes vs (fs, f, right, h) = pair (in_columns (Means below) (rows_of tables.KeyValue) fs vs h)
  where
    pair : Columns (Means below) (rows_of tables.KeyValue) fs vs → (p : KeyValue) × (vs ≡ pair_columns p)
    pair (a, rest, ea, ha, (b, bs, eb, hb, end)) =
        let value = one_made below tables.AnyValue any_columns made.any _ b hb in
        (record { key = _; value = value.0 }, with_column vs rest _ a _ ea ha (with_column rest bs _ b _ eb value.1 end))

-- a message that has a list alone
list_step : {T : Type 0} (below : ℕ) (item : Name) (columns : T → Values) → IsMade below item columns → (fs : List WireField) (vs : Values) → Columns (Means below) (tables.row 1 [] (tables.Many item) ∷ []) fs vs → (ts : List T) × (vs ≡ list_columns columns ts)
list_step below item columns made fs vs (a, rest, ea, ha, end) =
    let list = many_made below item columns made _ a ha in
    (list.0, with_column vs rest _ a _ ea list.1 end)

array_step : (below : ℕ) → AttributesMade below → IsMade (suc below) tables.ArrayValue (list_columns any_columns)
array_step below made bytes vs (fs, f, right, h) = list_step below tables.AnyValue any_columns made.any fs vs (in_columns (Means below) (rows_of tables.ArrayValue) fs vs h)

pairs_step : (below : ℕ) → AttributesMade below → IsMade (suc below) tables.KeyValueList (list_columns pair_columns)
pairs_step below made bytes vs (fs, f, right, h) = list_step below tables.KeyValue pair_columns made.pair fs vs (in_columns (Means below) (rows_of tables.KeyValueList) fs vs h)

any_nothing : any_columns variants.Nothing ≡ And Absent End
any_nothing = ap any_columns (sym variants.rolls-Nothing) ∙ fold-roll-AnyValue Values Values any_layer pair_layer layers.Nothing

-- ---- the member that was chosen

-- a member ends with a payload of its kind
record Ends (rows : List Row) (m : Member) : Type 0 where
  kind : Kind
  known : kind_at m.number rows ≡ Some kind
  front : List Payload
  last : Payload
  payloads : m.payloads ≡ front ++ last ∷ []
  is_of_kind : is_of kind last ≡ true

abbrev EndsIf : List Row → Option Member → Type 0
EndsIf rows None = Unit {0}
EndsIf rows (Some m) = Ends rows m

extended_ends : (rows : List Row) (kind : Kind) (f : WireField) (last : Option Member) → kind_at f.number rows ≡ Some kind → is_of kind f.payload ≡ true → Ends rows (extended f last)
extended_ends rows kind f None known is = record { kind = kind; known = known; front = []; last = f.payload; payloads = refl; is_of_kind = is }
extended_ends rows kind f (Some m) known is = either (nat_eq m.number f.number) refl
  where
    either : (b : Bool) → nat_eq m.number f.number ≡ b → Ends rows (record { number = f.number; payloads = cond (nat_eq m.number f.number) (m.payloads ++ f.payload ∷ []) (f.payload ∷ []) })
    either true e = rw e (record { kind = kind; known = known; front = m.payloads; last = f.payload; payloads = refl; is_of_kind = is })
    either false e = rw e (record { kind = kind; known = known; front = []; last = f.payload; payloads = refl; is_of_kind = is })

seen_ends : (rows : List Row) (kind : Option Kind) (f : WireField) (last : Option Member) → kind_at f.number rows ≡ kind → EndsIf rows last → EndsIf rows (seen kind f last)
seen_ends rows None f last known h = h
seen_ends rows (Some kind) f last known h = either (is_of kind f.payload) refl
  where
    either : (b : Bool) → is_of kind f.payload ≡ b → EndsIf rows (cond (is_of kind f.payload) (Some (extended f last)) last)
    either true e = rw e (extended_ends rows kind f last known e)
    either false e = rw e h

member_ends : (rows : List Row) (last : Option Member) (fs : List WireField) → EndsIf rows last → EndsIf rows (last_member rows last fs)
member_ends rows last [] h = h
member_ends rows last (f ∷ fs) h = member_ends rows (seen (kind_at f.number rows) f last) fs (seen_ends rows (kind_at f.number rows) f last refl h)

-- so a member that is a message is there
contents_end : (front : List Payload) (p : Payload) → nat_eq (wire_type p) 2 ≡ true → (b : List ℕ) × (filter_map content_in (front ++ p ∷ []) ≡ filter_map content_in front ++ b ∷ [])
contents_end front (wire.Bytes b) e = (b, filter_map-append content_in front (wire.Bytes b ∷ []))
contents_end front (wire.Varint n) e = absurd cc
contents_end front (wire.Eight n) e = absurd cc
contents_end front (wire.Four n) e = absurd cc

means_there : (means : List ℕ → Values → Type 0) (qs : List (List ℕ)) (b : List ℕ) (w : Value) → MeansOne means (qs ++ b ∷ []) w → (vs : Values) × (bytes : List ℕ) × means bytes vs × (w ≡ Present vs)
means_there means [] b w (vs, h, e) = (vs, joined (b ∷ []), h, e)
means_there means (q ∷ qs) b w (vs, h, e) = (vs, joined (q ∷ (qs ++ b ∷ [])), h, e)

-- the value of a member
abbrev MemberMade : ℕ → Value → Type 0
MemberMade number w = (a : AnyValue) × (chosen number w ≡ any_columns a)

-- a member whose message has a list alone
listed : {T : Type 0} (below number : ℕ) (name : Name) (columns : T → Values) → IsMade below name (list_columns columns) → (ps front : List Payload) (p : Payload) → ps ≡ front ++ p ∷ [] → nat_eq (wire_type p) 2 ≡ true → (w : Value) → MeansOne (Means below name) (filter_map content_in ps) w
    → (ts : List T) × (chosen number w ≡ chosen number (Present (list_columns columns ts)))
listed below number name columns made ps front p is kind w h =
    let ends = contents_end front p kind in
    let there = means_there (Means below name) (filter_map content_in front) ends.0 w (rw (is, ends.1) at h) in
    let list = made there.1 there.0 there.2 in
    (list.0, ap (chosen number) (there.3 ∙ ap Present list.1))

member_made : (below : ℕ) → AttributesMade below → (number : ℕ) (kind : Kind) (ps front : List Payload) (p : Payload) (w : Value) → IsRow number kind (rows_of tables.AnyValue) → ps ≡ front ++ p ∷ [] → is_of kind p ≡ true → ColumnMeans (Means below) kind ps w → MemberMade number w
member_made below made number kind ps front p w (inl (n, k)) is ends h = let e = rw (sym k) at h in rw n (variants.Str _, ap (chosen 1) e ∙ sym (any_text _))
member_made below made number kind ps front p w (inr (inl (n, k))) is ends h = let e = rw (sym k) at h in rw n (variants.Bool _, ap (chosen 2) e ∙ sym (any_bool _))
member_made below made number kind ps front p w (inr (inr (inl (n, k)))) is ends h = let e = rw (sym k) at h in rw n (variants.Int _, ap (chosen 3) e ∙ sym (any_int _))
member_made below made number kind ps front p w (inr (inr (inr (inl (n, k))))) is ends h = let e = rw (sym k) at h in rw n (variants.Double _, ap (chosen 4) e ∙ sym (any_double _))
member_made below made number kind ps front p w (inr (inr (inr (inr (inl (n, k)))))) is ends h =
    let list = listed below 5 tables.ArrayValue any_columns made.array ps front p is (rw (sym k) at ends) w (rw (sym k) at h) in
    rw n (variants.Array list.0, list.1 ∙ sym (any_array list.0))
member_made below made number kind ps front p w (inr (inr (inr (inr (inr (inl (n, k))))))) is ends h =
    let list = listed below 6 tables.KeyValueList pair_columns made.pairs ps front p is (rw (sym k) at ends) w (rw (sym k) at h) in
    rw n (variants.Pairs list.0, list.1 ∙ sym (any_pairs list.0))
member_made below made number kind ps front p w (inr (inr (inr (inr (inr (inr (inl (n, k)))))))) is ends h = let e = rw (sym k) at h in rw n (variants.Bytes _, ap (chosen 7) e ∙ sym (any_bytes _))
member_made below made number kind ps front p w (inr (inr (inr (inr (inr (inr (inr none))))))) is ends h = absurd none

chosen_made : (below : ℕ) → AttributesMade below → (m : Member) (kind : Option Kind) (v : Value) → kind_at m.number (rows_of tables.AnyValue) ≡ kind → Ends (rows_of tables.AnyValue) m → MeansChosen (Means below) kind m v → (a : AnyValue) × (And v End ≡ any_columns a)
chosen_made below made m None v e ends h = absurd h
chosen_made below made m (Some kind) v e ends (w, means, is) =
    let same : ends.kind ≡ kind = same_kind ends.kind kind (sym ends.known ∙ e) in
    let member = member_made below made m.number kind m.payloads ends.front ends.last w (in_rows m.number kind (rows_of tables.AnyValue) e) ends.payloads (rw same at ends.is_of_kind) means in
    (member.0, ap (λ (x : Value). And x End) is ∙ member.1)
  where
    same_kind : (a b : Kind) → Some a ≡ Some b → a ≡ b
    same_kind a b e = cc

choice_made : (below : ℕ) → AttributesMade below → (last : Option Member) (v : Value) → EndsIf (rows_of tables.AnyValue) last → MeansMember (Means below) (rows_of tables.AnyValue) last v → (a : AnyValue) × (And v End ≡ any_columns a)
choice_made below made None v ends h = (variants.Nothing, ap (λ (x : Value). And x End) h ∙ sym any_nothing)
choice_made below made (Some m) v ends h = chosen_made below made m (kind_at m.number (rows_of tables.AnyValue)) v refl ends h

any_step : (below : ℕ) → AttributesMade below → IsMade (suc below) tables.AnyValue any_columns
any_step below made bytes (And v End) (fs, f, right, h) = choice_made below made (last_member (rows_of tables.AnyValue) None fs) v (member_ends (rows_of tables.AnyValue) None fs tt) h
any_step below made bytes End (fs, f, right, h) = absurd h
any_step below made bytes (And v (And x vs)) (fs, f, right, h) = absurd h

attributes_made : (levels : ℕ) → AttributesMade levels
attributes_made zero = record { any = λ bytes vs h. absurd h; pair = λ bytes vs h. absurd h; array = λ bytes vs h. absurd h; pairs = λ bytes vs h. absurd h }
attributes_made (suc below) =
    let made = attributes_made below in
    record { any = any_step below made; pair = pair_step below made; array = array_step below made; pairs = pairs_step below made }

pub pair_made : (levels : ℕ) → IsMade levels tables.KeyValue pair_columns
pair_made levels = (attributes_made levels).pair

-- ---- the flat parts

config_file_made : (levels : ℕ) → IsMade levels tables.AgentConfigFile config_file_columns
config_file_made zero bytes vs h = absurd h
config_file_made (suc below) bytes vs (fs, f, right, h) = of (in_columns (Means below) (rows_of tables.AgentConfigFile) fs vs h)
  where
    of : Columns (Means below) (rows_of tables.AgentConfigFile) fs vs → (m : AgentConfigFile) × (vs ≡ config_file_columns m)
    of (a, rest, ea, ha, (b, bs, eb, hb, end)) = (record { body = _; content_type = _ }, with_column vs rest _ a _ ea ha (with_column rest bs _ b _ eb hb end))

pub config_map_made : (levels : ℕ) → IsMade levels tables.AgentConfigMap config_map_columns
config_map_made zero bytes vs h = absurd h
config_map_made (suc below) bytes vs (fs, f, right, h) = of (in_columns (Means below) (rows_of tables.AgentConfigMap) fs vs h)
  where
    of : Columns (Means below) (rows_of tables.AgentConfigMap) fs vs → (m : AgentConfigMap) × (vs ≡ config_map_columns m)
    of (a, rest, ea, ha, end) =
        let files = keyed_made below tables.AgentConfigFile config_file_columns (any_entry_made tables.AgentConfigFile config_file_columns config_file_made below) _ a ha in
        (record { config_map = files.0 }, with_column vs rest _ a _ ea files.1 end)

pub custom_capabilities_made : (levels : ℕ) → IsMade levels tables.CustomCapabilities custom_capabilities_columns
custom_capabilities_made zero bytes vs h = absurd h
custom_capabilities_made (suc below) bytes vs (fs, f, right, h) = of (in_columns (Means below) (rows_of tables.CustomCapabilities) fs vs h)
  where
    of : Columns (Means below) (rows_of tables.CustomCapabilities) fs vs → (m : CustomCapabilities) × (vs ≡ custom_capabilities_columns m)
    of (a, rest, ea, ha, end) = (record { capabilities = _ }, with_column vs rest _ a _ ea ha end)

pub custom_message_made : (levels : ℕ) → IsMade levels tables.CustomMessage custom_message_columns
custom_message_made zero bytes vs h = absurd h
custom_message_made (suc below) bytes vs (fs, f, right, h) = of (in_columns (Means below) (rows_of tables.CustomMessage) fs vs h)
  where
    of : Columns (Means below) (rows_of tables.CustomMessage) fs vs → (m : CustomMessage) × (vs ≡ custom_message_columns m)
    of (a, rest, ea, ha, (b, bs, eb, hb, (c, cs, ec, hc, end))) = (record { capability = _; kind = _; body = _ }, with_column vs rest _ a _ ea ha (with_column rest bs _ b _ eb hb (with_column bs cs _ c _ ec hc end)))
