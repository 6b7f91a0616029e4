-- Attributes and their values, variant by variant.
use Rattle.std.proofs.Common.{◌≡◌, ◌∙◌, ℕ, ℤ, List, ◌++◌, Bool, cond, codes, ap, sym}
use Rattle.std.specs.Fmt.{signed_decimal}
use Rattle.message_values.specs.declared.attributes.AnyValue.{AnyValue, fold-roll-AnyValue}
use Rattle.message_values.specs.declared.attributes.AnyValue.TheVariants as variants
use Rattle.message_values.specs.declared.attributes.AnyValue.TheOpen as layers
use Rattle.message_values.specs.declared.attributes.KeyValue.{KeyValue}
use Rattle.message_codec.specs.Tables as tables
use Rattle.message_codec.specs.Values.{Values, Content, Absent, Present, End, And}
use Rattle.message_codec.specs.Read.{each_of}
use Rattle.message_attributes.specs.AnyColumns.{any_layer, pair_layer, any_columns, pair_columns, list_columns}
use Rattle.message_attributes.proofs.AnyLaws.{any_text, any_bool, any_int, any_double, any_array, any_pairs, any_bytes}
use Rattle.message_codec.proofs.ColumnLaws.{append-nothing}
use Rattle.message_texts.specs.Words.{line, under, quoted, hexadecimal}
use Rattle.message_texts.specs.Texts.{bits, shown, part_text, column_lines, item_lines}
use Rattle.message_texts.proofs.Lines.{lines_onto, shown_onto}

pub nothing_shown : (old path : List ℕ) → shown old path tables.AnyValue (any_columns variants.Nothing) ≡ old
nothing_shown old path = shown_onto old path tables.AnyValue _ ∙ ap (lines_onto old path (tables.rows_of tables.AnyValue)) (ap any_columns (sym variants.rolls-Nothing) ∙ fold-roll-AnyValue Values Values any_layer pair_layer layers.Nothing) ∙ append-nothing old

pub text_shown : (old path text : List ℕ) → shown old path tables.AnyValue (any_columns (variants.Str text)) ≡ old ++ line (under path (codes "string_value")) (quoted text)
text_shown old path text = shown_onto old path tables.AnyValue _ ∙ ap (lines_onto old path (tables.rows_of tables.AnyValue)) (any_text text)

pub bool_shown : (old path : List ℕ) (b : Bool) → shown old path tables.AnyValue (any_columns (variants.Bool b)) ≡ old ++ line (under path (codes "bool_value")) (cond b (codes "true") (codes "false"))
bool_shown old path b = shown_onto old path tables.AnyValue _ ∙ ap (lines_onto old path (tables.rows_of tables.AnyValue)) (any_bool b)

pub int_shown : (old path : List ℕ) (n : ℤ) → shown old path tables.AnyValue (any_columns (variants.Int n)) ≡ old ++ line (under path (codes "int_value")) (signed_decimal n)
int_shown old path n = shown_onto old path tables.AnyValue _ ∙ ap (lines_onto old path (tables.rows_of tables.AnyValue)) (any_int n)

pub double_shown : (old path : List ℕ) (n : ℕ) → shown old path tables.AnyValue (any_columns (variants.Double n)) ≡ old ++ line (under path (codes "double_value")) (bits n)
double_shown old path n = shown_onto old path tables.AnyValue _ ∙ ap (lines_onto old path (tables.rows_of tables.AnyValue)) (any_double n)

pub array_shown : (old path : List ℕ) (vs : List AnyValue) → shown old path tables.AnyValue (any_columns (variants.Array vs)) ≡ old ++ part_text (under path (codes "array_value")) tables.ArrayValue (list_columns any_columns vs)
unfolding part_text
array_shown old path vs = shown_onto old path tables.AnyValue _ ∙ ap (lines_onto old path (tables.rows_of tables.AnyValue)) (any_array vs)

pub kvlist_shown : (old path : List ℕ) (ps : List KeyValue) → shown old path tables.AnyValue (any_columns (variants.Pairs ps)) ≡ old ++ part_text (under path (codes "kvlist_value")) tables.KeyValueList (list_columns pair_columns ps)
unfolding part_text
kvlist_shown old path ps = shown_onto old path tables.AnyValue _ ∙ ap (lines_onto old path (tables.rows_of tables.AnyValue)) (any_pairs ps)

pub bytes_shown : (old path bytes : List ℕ) → shown old path tables.AnyValue (any_columns (variants.Bytes bytes)) ≡ old ++ line (under path (codes "bytes_value")) (hexadecimal bytes)
bytes_shown old path bytes = shown_onto old path tables.AnyValue _ ∙ ap (lines_onto old path (tables.rows_of tables.AnyValue)) (any_bytes bytes)

-- the items of an array, and of a list of attributes
pub values_shown : (old path : List ℕ) (vs : List AnyValue) → shown old path tables.ArrayValue (list_columns any_columns vs) ≡ old ++ item_lines (under path (codes "values")) (tables.Many tables.AnyValue) 0 (each_of any_columns vs)
values_shown old path vs = shown_onto old path tables.ArrayValue (list_columns any_columns vs)

pub pairs_shown : (old path : List ℕ) (ps : List KeyValue) → shown old path tables.KeyValueList (list_columns pair_columns ps) ≡ old ++ item_lines (under path (codes "values")) (tables.Many tables.KeyValue) 0 (each_of pair_columns ps)
pairs_shown old path ps = shown_onto old path tables.KeyValueList (list_columns pair_columns ps)

-- an attribute that has no value, and one that has one
pub key_shown : (old path key : List ℕ) → shown old path tables.KeyValue (And (Content key) (And Absent End)) ≡ old ++ column_lines path (codes "key") tables.Text (Content key)
key_shown old path key = shown_onto old path tables.KeyValue (And (Content key) (And Absent End)) ∙ append-nothing (old ++ column_lines path (codes "key") tables.Text (Content key))

pub pair_shown : (old path key : List ℕ) (value : AnyValue) → shown old path tables.KeyValue (And (Content key) (And (Present (any_columns value)) End)) ≡ (old ++ column_lines path (codes "key") tables.Text (Content key)) ++ part_text (under path (codes "value")) tables.AnyValue (any_columns value)
unfolding part_text
pair_shown old path key value = shown_onto old path tables.KeyValue (And (Content key) (And (Present (any_columns value)) End))
