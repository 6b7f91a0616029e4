use Rattle.std.proofs.Common.{ap}
use Rattle.message_codec.proofs.Reading.{arrived_is}
use Rattle.message_reports.specs.ComponentColumns.{details_row, details_columns}
use Rattle.message_reports.proofs.ComponentLaws.{details_roll}
use Rattle.message_reports.proofs.components.DetailsDraft.settle.Goals as goal

pub returns : goal.returns
returns c = record { columns = rw (details_roll, c.in_ok-map_of.ensures.value) (ap (details_row c.args.self.metadata) (arrived_is details_columns c.args.self.sub_component_map)) }
