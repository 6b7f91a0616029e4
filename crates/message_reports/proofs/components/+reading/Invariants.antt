use Rattle.std.proofs.Common.{length, take, ◌-◌, suc, ◌+◌, ◌*◌, ◌≤◌}
use Rattle.message_codec.specs.Tables as tables
use Rattle.message_reports.specs.ComponentColumns.{details_draft_columns, details_entry_draft_columns}
use Rattle.message_codec.specs.Reads.{Reads}
use Rattle.message_reports.proofs.components.+reading.Given as goal

-- Levels fall from a payload to the message that it holds, and each level has a reader, its fields and their columns.
abbrev pub decreases-read_details_into : goal.decreases-read_details_into
decreases-read_details_into l = 3 * l.below + 2

abbrev pub decreases-take_details : goal.decreases-take_details
decreases-take_details l = 3 * l.below + 1

abbrev pub decreases-take_details_part : goal.decreases-take_details_part
decreases-take_details_part l = 3 * l.below

abbrev pub decreases-read_details_part_into : goal.decreases-read_details_part_into
decreases-read_details_part_into l = 3 * l.below + 2

abbrev pub decreases-take_details_entry : goal.decreases-take_details_entry
decreases-take_details_entry l = 3 * l.below + 1

abbrev pub decreases-take_details_value : goal.decreases-take_details_value
decreases-take_details_value l = 3 * l.below

abbrev pub invariant-read_details_into-loop-at : goal.invariant-read_details_into-loop-at
invariant-read_details_into-loop-at l = record { within : l.at ≤ length l.bytes; reads : Reads (suc l.below) tables.ComponentDetails (take l.at l.bytes) (details_draft_columns l.fn.details) (details_draft_columns l.details) }

abbrev pub decreases-read_details_into-loop-at : goal.decreases-read_details_into-loop-at
decreases-read_details_into-loop-at l = length l.bytes - l.at

abbrev pub invariant-read_details_part_into-loop-at : goal.invariant-read_details_part_into-loop-at
invariant-read_details_part_into-loop-at l = record { within : l.at ≤ length l.bytes; reads : Reads (suc l.below) (tables.Entry tables.ComponentDetails) (take l.at l.bytes) (details_entry_draft_columns l.fn.part) (details_entry_draft_columns l.part) }

abbrev pub decreases-read_details_part_into-loop-at : goal.decreases-read_details_part_into-loop-at
decreases-read_details_part_into-loop-at l = length l.bytes - l.at
