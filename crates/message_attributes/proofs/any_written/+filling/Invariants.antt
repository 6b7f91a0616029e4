use Rattle.std.proofs.Common.{◌≤◌, length, drop}
use Rattle.message_codec.specs.Filling.{HasPlace, Fills}
use Rattle.message_codec.specs.Tables as tables
use Rattle.message_codec.specs.Canonical.{canonical}
use Rattle.message_codec.proofs.Parts.{parts_bytes, message_content}
use Rattle.message_attributes.specs.AnyColumns.{any_columns, pair_columns, list_columns}
use Rattle.message_attributes.proofs.any_written.+filling.Given as goal

abbrev pub invariant-fill_array-loop-left : goal.invariant-fill_array-loop-left
invariant-fill_array-loop-left l = record {
  within : l.left ≤ length l.values;
  filled : HasPlace l.initial.out l.end (canonical tables.ArrayValue (list_columns any_columns l.values)) → Fills l.initial.out l.out l.end (parts_bytes (message_content any_columns tables.AnyValue) 1 (drop l.left l.values)) l.at;
}

abbrev pub invariant-fill_kvlist-loop-left : goal.invariant-fill_kvlist-loop-left
invariant-fill_kvlist-loop-left l = record {
  within : l.left ≤ length l.pairs;
  filled : HasPlace l.initial.out l.end (canonical tables.KeyValueList (list_columns pair_columns l.pairs)) → Fills l.initial.out l.out l.end (parts_bytes (message_content pair_columns tables.KeyValue) 1 (drop l.left l.pairs)) l.at;
}

abbrev pub decreases-fill_array-loop-left : goal.decreases-fill_array-loop-left
decreases-fill_array-loop-left l = l.left

abbrev pub decreases-fill_kvlist-loop-left : goal.decreases-fill_kvlist-loop-left
decreases-fill_kvlist-loop-left l = l.left
