-- The columns of the messages that are read before their maps are settled.
use Rattle.message_codec.specs.Values.{Number, Content, Several, Values, End, And}
use Rattle.message_codec.specs.Read.{one_of, arrived_of}
use Rattle.message_attributes.specs.PartColumns.{config_map_draft_columns, custom_capabilities_columns, custom_message_columns}
use Rattle.message_replies.specs.ReplyColumns.{connection_offers_columns, package_available_columns, error_response_columns, identification_columns, command_columns}
use Rattle.message_replies.specs.declared.packages_read.PackagesAvailableDraft.{PackagesAvailableDraft}
use Rattle.message_replies.specs.declared.replies_read.AgentRemoteConfigDraft.{AgentRemoteConfigDraft}
use Rattle.message_replies.specs.declared.replies_read.ServerToAgentDraft.{ServerToAgentDraft}

abbrev pub packages_available_draft_columns : PackagesAvailableDraft → Values
packages_available_draft_columns p = And (Several (arrived_of package_available_columns p.packages)) (And (Content p.all_packages_hash) End)

abbrev pub remote_config_draft_columns : AgentRemoteConfigDraft → Values
remote_config_draft_columns c = And (one_of config_map_draft_columns c.config) (And (Content c.config_hash) End)

abbrev pub server_to_agent_draft_columns : ServerToAgentDraft → Values
server_to_agent_draft_columns r =
    And (Content r.instance_uid)
    (And (one_of error_response_columns r.error_response)
    (And (one_of remote_config_draft_columns r.remote_config)
    (And (one_of connection_offers_columns r.connection_settings)
    (And (one_of packages_available_draft_columns r.packages_available)
    (And (Number r.flags)
    (And (Number r.capabilities)
    (And (one_of identification_columns r.agent_identification)
    (And (one_of command_columns r.command)
    (And (one_of custom_capabilities_columns r.custom_capabilities)
    (And (one_of custom_message_columns r.custom_message) End))))))))))
