use Rattle.std.proofs.Common.{ap}
use Rattle.message_codec.specs.Values.{Values, Content, Several, End, And}
use Rattle.message_codec.proofs.Reading.{arrived_is}
use Rattle.message_replies.specs.ReplyColumns.{package_available_columns}
use Rattle.message_replies.proofs.packages_read.PackagesAvailableDraft.settle.Goals as goal

pub returns : goal.returns
returns c = record { columns = rw (c.in_ok-of_entries.ensures.value, c.into_vec.ensures.value) (ap (λ (es : Values). And (Several es) (And (Content c.args.self.all_packages_hash) End)) (arrived_is package_available_columns c.args.self.packages)) }
