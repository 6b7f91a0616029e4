use Rattle.std.proofs.Common.{length, take, ◌-◌, suc, ◌+◌, ◌*◌, ◌≤◌}
use Rattle.message_codec.specs.Tables as tables
use Rattle.message_reports.specs.HealthColumns.{health_draft_columns, health_entry_draft_columns}
use Rattle.message_codec.specs.Reads.{Reads}
use Rattle.message_reports.proofs.health.+reading.Given as goal

-- Levels fall from a payload to the message that it holds, and each level has a reader, its fields and their columns.
abbrev pub decreases-read_health_into : goal.decreases-read_health_into
decreases-read_health_into l = 3 * l.below + 2

abbrev pub decreases-take_health : goal.decreases-take_health
decreases-take_health l = 3 * l.below + 1

abbrev pub decreases-take_health_part : goal.decreases-take_health_part
decreases-take_health_part l = 3 * l.below

abbrev pub decreases-read_health_part_into : goal.decreases-read_health_part_into
decreases-read_health_part_into l = 3 * l.below + 2

abbrev pub decreases-take_health_entry : goal.decreases-take_health_entry
decreases-take_health_entry l = 3 * l.below + 1

abbrev pub decreases-take_health_value : goal.decreases-take_health_value
decreases-take_health_value l = 3 * l.below

abbrev pub invariant-read_health_into-loop-at : goal.invariant-read_health_into-loop-at
invariant-read_health_into-loop-at l = record { within : l.at ≤ length l.bytes; reads : Reads (suc l.below) tables.ComponentHealth (take l.at l.bytes) (health_draft_columns l.fn.health) (health_draft_columns l.health) }

abbrev pub decreases-read_health_into-loop-at : goal.decreases-read_health_into-loop-at
decreases-read_health_into-loop-at l = length l.bytes - l.at

abbrev pub invariant-read_health_part_into-loop-at : goal.invariant-read_health_part_into-loop-at
invariant-read_health_part_into-loop-at l = record { within : l.at ≤ length l.bytes; reads : Reads (suc l.below) (tables.Entry tables.ComponentHealth) (take l.at l.bytes) (health_entry_draft_columns l.fn.part) (health_entry_draft_columns l.part) }

abbrev pub decreases-read_health_part_into-loop-at : goal.decreases-read_health_part_into-loop-at
decreases-read_health_part_into-loop-at l = length l.bytes - l.at
