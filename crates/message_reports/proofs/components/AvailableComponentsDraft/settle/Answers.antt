use Rattle.std.proofs.Common.{ap}
use Rattle.message_codec.specs.Values.{Values, Content, Several, End, And}
use Rattle.message_codec.proofs.Reading.{arrived_is}
use Rattle.message_reports.specs.ComponentColumns.{details_columns}
use Rattle.message_reports.proofs.components.AvailableComponentsDraft.settle.Goals as goal

pub returns : goal.returns
returns c = record { columns = rw (c.in_ok-map_of.ensures.value) (ap (λ (es : Values). And (Several es) (And (Content c.args.self.hash) End)) (arrived_is details_columns c.args.self.components)) }
