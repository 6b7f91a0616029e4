use Rattle.std.specs.List.{AllByRecursion}
use Rattle.std.proofs.Common.{◌≡◌, ◌≤◌, ◌^◌, take}
use Rattle.message_codec.specs.Tables as tables
use Rattle.message_codec.specs.Canonical.{plus_length}
use Rattle.message_codec.proofs.Parts.{parts_bytes, message_content, fits_message}
use Rattle.message_attributes.specs.AnyColumns.{any_columns, pair_columns}
use Rattle.message_attributes.proofs.any_written.+counting.Given as goal

abbrev pub invariant-array_len-loop-value : goal.invariant-array_len-loop-value
invariant-array_len-loop-value l = record { bound : l.total ≤ 2 ^ 62; counted : l.total ≡ plus_length 0 (parts_bytes (message_content any_columns tables.AnyValue) 1 (take l.value-index l.values)); fit : AllByRecursion (fits_message any_columns tables.AnyValue) (take l.value-index l.values) }

abbrev pub invariant-kvlist_len-loop-pair : goal.invariant-kvlist_len-loop-pair
invariant-kvlist_len-loop-pair l = record { bound : l.total ≤ 2 ^ 62; counted : l.total ≡ plus_length 0 (parts_bytes (message_content pair_columns tables.KeyValue) 1 (take l.pair-index l.pairs)); fit : AllByRecursion (fits_message pair_columns tables.KeyValue) (take l.pair-index l.pairs) }
