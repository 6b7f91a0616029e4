use Rattle.std.proofs.Common.{length, take, ◌-◌, suc, ◌+◌, ◌*◌, ◌≤◌}
use Rattle.message_codec.specs.Tables as tables
use Rattle.message_attributes.specs.AnyColumns.{any_columns, pair_columns, list_columns}
use Rattle.message_codec.specs.Reads.{Reads}
use Rattle.message_attributes.proofs.any.+reading.Given as goal

-- Levels fall from a payload to the message that it holds, and each level has a reader, its fields and their columns.
abbrev pub decreases-read_any_into : goal.decreases-read_any_into
decreases-read_any_into l = 3 * l.below + 2

abbrev pub decreases-take_any : goal.decreases-take_any
decreases-take_any l = 3 * l.below + 1

abbrev pub decreases-take_array : goal.decreases-take_array
decreases-take_array l = 3 * l.below

abbrev pub decreases-read_array_into : goal.decreases-read_array_into
decreases-read_array_into l = 3 * l.below + 2

abbrev pub decreases-take_in_array : goal.decreases-take_in_array
decreases-take_in_array l = 3 * l.below + 1

abbrev pub decreases-take_value : goal.decreases-take_value
decreases-take_value l = 3 * l.below

abbrev pub decreases-take_kvlist : goal.decreases-take_kvlist
decreases-take_kvlist l = 3 * l.below

abbrev pub decreases-read_kvlist_into : goal.decreases-read_kvlist_into
decreases-read_kvlist_into l = 3 * l.below + 2

abbrev pub decreases-take_in_kvlist : goal.decreases-take_in_kvlist
decreases-take_in_kvlist l = 3 * l.below + 1

abbrev pub decreases-take_pair : goal.decreases-take_pair
decreases-take_pair l = 3 * l.below

abbrev pub decreases-read_pair_into : goal.decreases-read_pair_into
decreases-read_pair_into l = 3 * l.below + 2

abbrev pub decreases-take_in_pair : goal.decreases-take_in_pair
decreases-take_in_pair l = 3 * l.below + 1

abbrev pub decreases-take_pair_value : goal.decreases-take_pair_value
decreases-take_pair_value l = 3 * l.below

abbrev pub invariant-read_any_into-loop-at : goal.invariant-read_any_into-loop-at
invariant-read_any_into-loop-at l = record { within : l.at ≤ length l.bytes; reads : Reads (suc l.below) tables.AnyValue (take l.at l.bytes) (any_columns l.fn.any) (any_columns l.any) }

abbrev pub decreases-read_any_into-loop-at : goal.decreases-read_any_into-loop-at
decreases-read_any_into-loop-at l = length l.bytes - l.at

abbrev pub invariant-read_array_into-loop-at : goal.invariant-read_array_into-loop-at
invariant-read_array_into-loop-at l = record { within : l.at ≤ length l.bytes; reads : Reads (suc l.below) tables.ArrayValue (take l.at l.bytes) (list_columns any_columns l.fn.values) (list_columns any_columns l.values) }

abbrev pub decreases-read_array_into-loop-at : goal.decreases-read_array_into-loop-at
decreases-read_array_into-loop-at l = length l.bytes - l.at

abbrev pub invariant-read_kvlist_into-loop-at : goal.invariant-read_kvlist_into-loop-at
invariant-read_kvlist_into-loop-at l = record { within : l.at ≤ length l.bytes; reads : Reads (suc l.below) tables.KeyValueList (take l.at l.bytes) (list_columns pair_columns l.fn.pairs) (list_columns pair_columns l.pairs) }

abbrev pub decreases-read_kvlist_into-loop-at : goal.decreases-read_kvlist_into-loop-at
decreases-read_kvlist_into-loop-at l = length l.bytes - l.at

abbrev pub invariant-read_pair_into-loop-at : goal.invariant-read_pair_into-loop-at
invariant-read_pair_into-loop-at l = record { within : l.at ≤ length l.bytes; reads : Reads (suc l.below) tables.KeyValue (take l.at l.bytes) (pair_columns l.fn.pair) (pair_columns l.pair) }

abbrev pub decreases-read_pair_into-loop-at : goal.decreases-read_pair_into-loop-at
decreases-read_pair_into-loop-at l = length l.bytes - l.at
