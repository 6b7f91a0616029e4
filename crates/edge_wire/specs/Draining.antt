-- How a connection drains.
use Rattle.std.specs.Prelude.{nat_le, if◌then◌else◌}
use Rattle.edge_wire.specs.StageStates.{StageState}
use Rattle.edge_wire.specs.Stages.{after_drop}
use Rattle.edge_wire.specs.declared.connection.Got.{Got}
use Rattle.edge_wire.specs.declared.connection.Got.TheVariants as got
use Rattle.edge_wire.specs.declared.connection.Step.{Step}
use Rattle.edge_wire.specs.declared.connection.Step.TheVariants.{Again, Gone, Wait}

-- What was read is counted.
abbrev pub drained_by : Got → StageState → StageState
drained_by (got.Bytes count) stage = after_drop stage count
drained_by _ stage = stage

-- More may come behind at most 1,048,576 bytes; an end is the end, and so is one byte more.
abbrev pub drain_step : Got → StageState → Step
drain_step (got.Bytes count) stage = if nat_le stage.drained 1048576 then Again else Gone
drain_step got.Again stage = Again
drain_step got.Nothing stage = Wait
drain_step got.End stage = Gone
