use Rattle.std.proofs.Common.{ap}
use Rattle.message_codec.specs.Values.{Values, Content, Several, End, And}
use Rattle.message_codec.proofs.Reading.{arrived_is}
use Rattle.message_reports.specs.Columns.{package_status_columns}
use Rattle.message_reports.proofs.packages.PackageStatusesDraft.settle.Goals as goal

pub returns : goal.returns
returns c = record { columns = rw (c.in_ok-map_of.ensures.value) (ap (λ (es : Values). And (Several es) (And (Content c.args.self.server_provided_all_packages_hash) (And (Content c.args.self.error_message) End))) (arrived_is package_status_columns c.args.self.packages)) }
