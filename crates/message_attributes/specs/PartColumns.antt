-- The columns of the parts, row by row of their tables (OpAMP specification, "opamp.proto").
use Rattle.plain_values.specs.declared.files.AgentConfigFile.{AgentConfigFile}
use Rattle.plain_values.specs.declared.files.AgentConfigMap.{AgentConfigMap}
use Rattle.message_values.specs.declared.custom.CustomCapabilities.{CustomCapabilities}
use Rattle.message_values.specs.declared.custom.CustomMessage.{CustomMessage}
use Rattle.message_codec.specs.Values.{Content, Contents, Several, Values, End, And}
use Rattle.message_codec.specs.Means.{entries_of}
use Rattle.message_codec.specs.Read.{arrived_of}
use Rattle.message_attributes.specs.declared.parts.AgentConfigMapDraft.{AgentConfigMapDraft}

abbrev pub config_file_columns : AgentConfigFile → Values
config_file_columns f = And (Content f.body) (And (Content f.content_type) End)

abbrev pub config_map_columns : AgentConfigMap → Values
config_map_columns c = And (Several (entries_of config_file_columns c.config_map)) End

abbrev pub config_map_draft_columns : AgentConfigMapDraft → Values
config_map_draft_columns d = And (Several (arrived_of config_file_columns d.config_map)) End

abbrev pub custom_capabilities_columns : CustomCapabilities → Values
custom_capabilities_columns c = And (Contents c.capabilities) End

abbrev pub custom_message_columns : CustomMessage → Values
custom_message_columns m = And (Content m.capability) (And (Content m.kind) (And (Content m.body) End))
