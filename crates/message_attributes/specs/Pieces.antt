-- An attribute, a value or a list of such that is open.
use Rattle.message_codec.specs.Tables as tables
use Rattle.message_codec.specs.Tables.{Name}
use Rattle.message_codec.specs.Values.{Values}
use Rattle.message_attributes.specs.AnyColumns.{any_columns, pair_columns, list_columns}
use Rattle.message_attributes.specs.declared.pieces.AttributePart.{AttributePart}
use Rattle.message_attributes.specs.declared.pieces.AttributePart.TheVariants as parts

abbrev pub part_name : AttributePart → Name
part_name (parts.Any any) = tables.AnyValue
part_name (parts.Array values) = tables.ArrayValue
part_name (parts.Pairs pairs) = tables.KeyValueList
part_name (parts.Pair pair) = tables.KeyValue

abbrev pub part_columns : AttributePart → Values
part_columns (parts.Any any) = any_columns any
part_columns (parts.Array values) = list_columns any_columns values
part_columns (parts.Pairs pairs) = list_columns pair_columns pairs
part_columns (parts.Pair pair) = pair_columns pair
