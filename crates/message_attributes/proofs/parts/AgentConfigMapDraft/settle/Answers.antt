use Rattle.std.proofs.Common.{ap}
use Rattle.message_codec.specs.Values.{Values, Several, End, And}
use Rattle.message_codec.proofs.Reading.{arrived_is}
use Rattle.message_attributes.specs.PartColumns.{config_file_columns}
use Rattle.message_attributes.proofs.parts.AgentConfigMapDraft.settle.Goals as goal

pub returns : goal.returns
returns c = record { columns = rw (c.in_ok-of_entries.ensures.value, c.into_vec.ensures.value) (ap (λ (es : Values). And (Several es) End) (arrived_is config_file_columns c.args.self.config_map)) }
