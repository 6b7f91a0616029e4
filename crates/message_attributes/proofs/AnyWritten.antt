-- The canonical bytes and the levels of attributes and their values, variant by variant.
use Rattle.std.proofs.Common.{◌≡◌, ℕ, ℤ, take, drop, get_or, ◌+◌, ◌-◌, ◌*◌, ◌≤◌, subst, ◌<◌, ◌^◌, min, Bool, cond, List, [], ◌++◌, length, ap, sym, ◌∙◌, arith, append_assoc, length-append}
use Rattle.std.specs.Prelude.{Result, Ok, Err}
use Rattle.std.specs.Int.{w64, cast_unsigned}
use Rattle.message_values.specs.declared.attributes.AnyValue.{AnyValue, fold-roll-AnyValue}
use Rattle.message_values.specs.declared.attributes.AnyValue.TheVariants as variants
use Rattle.message_values.specs.declared.attributes.AnyValue.TheOpen as layers
use Rattle.message_values.specs.declared.attributes.KeyValue.{KeyValue}
use Rattle.message_codec.specs.Fields.{Varint, Eight, field_spelling}
use Rattle.message_codec.specs.Varint.{varint}
use Rattle.message_codec.specs.Row as out
use Rattle.message_codec.specs.Row.{appended}
use Rattle.message_codec.specs.Tables as tables
use Rattle.message_codec.specs.Tables.{Name, Many}
use Rattle.message_codec.specs.Values.{Values, End, And, Absent, Several}
use Rattle.message_codec.specs.Read.{each_of}
use Rattle.message_codec.proofs.ColumnLaws.{append-nothing}
use Rattle.message_codec.specs.Canonical.{canonical, column_bytes, part_spelling, Puts, capped, plus_length}
use Rattle.message_codec.proofs.Canonical.{appended_twice, count_first, head_fits, head_short, part_length, spare_is}
use Rattle.message_codec.specs.Levels.{deepest}
use Rattle.message_codec.proofs.Backward.{part_before, part_fills}
use Rattle.message_codec.specs.Filling.{HasPlace, Fills}
use Rattle.message_codec.proofs.Parts.{parts_bytes, message_content, many_is, one_within, parts_short, parts_depth, many_depth}
use Rattle.message_attributes.specs.AnyColumns.{any_layer, pair_layer, any_columns, pair_columns, list_columns}
use Rattle.message_attributes.proofs.AnyLaws.{any_text, any_bool, any_int, any_double, any_array, any_pairs, any_bytes}

any_nothing : any_columns variants.Nothing ≡ And Absent End
any_nothing = ap any_columns (sym variants.rolls-Nothing) ∙ fold-roll-AnyValue Values Values any_layer pair_layer layers.Nothing

pub nothing_spelled : canonical tables.AnyValue (any_columns variants.Nothing) ≡ []
nothing_spelled = ap (canonical tables.AnyValue) any_nothing

pub text_spelled : (text : List ℕ) → canonical tables.AnyValue (any_columns (variants.Str text)) ≡ part_spelling 1 text
text_spelled text = ap (canonical tables.AnyValue) (any_text text) ∙ append-nothing (part_spelling 1 text)

pub bool_spelled : (b : Bool) → canonical tables.AnyValue (any_columns (variants.Bool b)) ≡ field_spelling (record { number = 2; payload = Varint (cond b 1 0) })
bool_spelled b = ap (canonical tables.AnyValue) (any_bool b) ∙ append-nothing (field_spelling (record { number = 2; payload = Varint (cond b 1 0) }))

pub int_spelled : (n : ℤ) → canonical tables.AnyValue (any_columns (variants.Int n)) ≡ field_spelling (record { number = 3; payload = Varint (cast_unsigned w64 n) })
int_spelled n = ap (canonical tables.AnyValue) (any_int n) ∙ append-nothing (field_spelling (record { number = 3; payload = Varint (cast_unsigned w64 n) }))

pub double_spelled : (n : ℕ) → canonical tables.AnyValue (any_columns (variants.Double n)) ≡ field_spelling (record { number = 4; payload = Eight n })
double_spelled n = ap (canonical tables.AnyValue) (any_double n) ∙ append-nothing (field_spelling (record { number = 4; payload = Eight n }))

pub array_spelled : (vs : List AnyValue) → canonical tables.AnyValue (any_columns (variants.Array vs)) ≡ part_spelling 5 (canonical tables.ArrayValue (list_columns any_columns vs))
array_spelled vs = ap (canonical tables.AnyValue) (any_array vs) ∙ append-nothing (part_spelling 5 (canonical tables.ArrayValue (list_columns any_columns vs)))

pub pairs_spelled : (ps : List KeyValue) → canonical tables.AnyValue (any_columns (variants.Pairs ps)) ≡ part_spelling 6 (canonical tables.KeyValueList (list_columns pair_columns ps))
pairs_spelled ps = ap (canonical tables.AnyValue) (any_pairs ps) ∙ append-nothing (part_spelling 6 (canonical tables.KeyValueList (list_columns pair_columns ps)))

pub bytes_spelled : (bytes : List ℕ) → canonical tables.AnyValue (any_columns (variants.Bytes bytes)) ≡ part_spelling 7 bytes
bytes_spelled bytes = ap (canonical tables.AnyValue) (any_bytes bytes) ∙ append-nothing (part_spelling 7 bytes)

-- the length of a column alone
pub counted_alone : (len : ℕ) (bytes whole : List ℕ) → whole ≡ bytes → len ≡ plus_length 0 bytes → len ≡ capped whole
counted_alone len bytes whole is e = e ∙ count_first bytes ∙ ap capped (sym is)

-- ---- from the end to the front

-- the item before those that stand
pub item_fills : {T : Type 0} (columns : T → Values) (name : Name) (ts : List T) (left : ℕ) (t : T) (old now middle new : out.Row) (end at start first : ℕ) → 0 < left → left ≤ length ts → t ≡ get_or ts (left - 1) t
    → HasPlace old end (column_bytes 1 (Many name) (Several (each_of columns ts))) → Fills old now end (parts_bytes (message_content columns name) 1 (drop left ts)) at
    → (HasPlace now at (canonical name (columns t)) → Fills now middle at (canonical name (columns t)) start) → (HasPlace middle start (varint (1 * 8 + 2) ++ varint (at - start)) → Fills middle new start (varint (1 * 8 + 2) ++ varint (at - start)) first)
    → Fills old new end (parts_bytes (message_content columns name) 1 (drop (left - 1) ts)) first
item_fills columns name ts left t old now middle new end at start first some within is place behind content head =
    let whole = subst (λ (xs : List ℕ). HasPlace old end xs) (sym (many_is columns 1 name ts)) place in
    part_before (message_content columns name) 1 ts left (left - 1) t old now new end at first (omega (arith, some)) (omega (arith, some, within)) is whole behind
    (λ here. part_fills now middle new 1 at start first (canonical name (columns t)) here content head)

-- a key, with no value behind it
pub key_counted : (key : List ℕ) (len : ℕ) → len ≡ plus_length 0 key → len ≡ capped (key ++ [])
key_counted key len e = e ∙ count_first key ∙ ap capped (sym (append-nothing key))

-- ---- levels

pub list_depth : {T : Type 0} (columns : T → Values) (ts : List T) → parts_depth columns ts ≡ deepest (list_columns columns ts)
list_depth columns ts = omega (arith, many_depth columns ts)

pub array_depth : (vs : List AnyValue) (inner levels : ℕ) → inner ≡ min (deepest (list_columns any_columns vs)) 100 → levels ≡ min (1 + inner) 100 → levels ≡ min (deepest (any_columns (variants.Array vs))) 100
array_depth vs inner levels e f = rw any_array (omega arith)

pub pairs_depth : (ps : List KeyValue) (inner levels : ℕ) → inner ≡ min (deepest (list_columns pair_columns ps)) 100 → levels ≡ min (1 + inner) 100 → levels ≡ min (deepest (any_columns (variants.Pairs ps))) 100
pairs_depth ps inner levels e f = rw any_pairs (omega arith)
