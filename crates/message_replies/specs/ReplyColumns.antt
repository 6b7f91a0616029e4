-- The columns of the messages that a server sends, row by row of their tables (OpAMP specification, "ServerToAgent
-- Message" and the messages below it).
use Rattle.std.specs.Prelude.{List, drop}
use Rattle.message_values.specs.declared.config.AgentRemoteConfig.{AgentRemoteConfig}
use Rattle.message_values.specs.declared.connection.ConnectionSettingsOffers.{ConnectionSettingsOffers}
use Rattle.plain_values.specs.declared.headers.Header.{Header}
use Rattle.plain_values.specs.declared.headers.Headers.{Headers}
use Rattle.message_values.specs.declared.connection.OpAMPConnectionSettings.{OpAMPConnectionSettings}
use Rattle.message_values.specs.declared.packages.DownloadableFile.{DownloadableFile}
use Rattle.message_values.specs.declared.packages.PackageAvailable.{PackageAvailable}
use Rattle.message_values.specs.declared.packages.PackagesAvailable.{PackagesAvailable}
use Rattle.message_values.specs.declared.reply.AgentIdentification.{AgentIdentification}
use Rattle.message_values.specs.declared.reply.RetryInfo.{RetryInfo}
use Rattle.message_values.specs.declared.reply.ServerErrorResponse.{ServerErrorResponse}
use Rattle.message_values.specs.declared.reply.ServerToAgent.{ServerToAgent}
use Rattle.message_values.specs.declared.reply.ServerToAgentCommand.{ServerToAgentCommand}
use Rattle.message_codec.specs.Tables.{ServerToAgent as ServerToAgentTable, Row, rows_of}
use Rattle.message_codec.specs.Values.{Number, Integer, Content, Several, Values, End, And}
use Rattle.message_codec.specs.Means.{entries_of}
use Rattle.message_codec.specs.Read.{one_of, raw_of, each_of}
use Rattle.message_attributes.specs.PartColumns.{config_map_columns, custom_capabilities_columns, custom_message_columns}

abbrev pub header_columns : Header → Values
header_columns h = And (Content h.key) (And (Content h.value) End)

abbrev pub headers_columns : Headers → Values
headers_columns h = And (Several (each_of header_columns h.headers)) End

abbrev pub connection_settings_columns : OpAMPConnectionSettings → Values
connection_settings_columns s =
    And (Content s.destination_endpoint)
    (And (one_of headers_columns s.headers)
    (And (raw_of s.certificate)
    (And (Number s.heartbeat_interval_seconds) End)))

abbrev pub connection_offers_columns : ConnectionSettingsOffers → Values
connection_offers_columns o = And (Content o.hash) (And (one_of connection_settings_columns o.opamp) End)

abbrev pub downloadable_file_columns : DownloadableFile → Values
downloadable_file_columns f = And (Content f.download_url) (And (Content f.content_hash) (And (Content f.signature) End))

abbrev pub package_available_columns : PackageAvailable → Values
package_available_columns p =
    And (Integer p.kind)
    (And (Content p.version)
    (And (one_of downloadable_file_columns p.file)
    (And (Content p.hash) End)))

abbrev pub packages_available_columns : PackagesAvailable → Values
packages_available_columns p = And (Several (entries_of package_available_columns p.packages)) (And (Content p.all_packages_hash) End)

abbrev pub remote_config_columns : AgentRemoteConfig → Values
remote_config_columns c = And (one_of config_map_columns c.config) (And (Content c.config_hash) End)

abbrev pub retry_info_columns : RetryInfo → Values
retry_info_columns r = And (Number r.retry_after_nanoseconds) End

abbrev pub error_response_columns : ServerErrorResponse → Values
error_response_columns e = And (Integer e.kind) (And (Content e.error_message) (And (one_of retry_info_columns e.retry_info) End))

abbrev pub identification_columns : AgentIdentification → Values
identification_columns i = And (Content i.new_instance_uid) End

abbrev pub command_columns : ServerToAgentCommand → Values
command_columns c = And (Integer c.kind) End

abbrev pub server_to_agent_columns : ServerToAgent → Values
server_to_agent_columns r =
    And (Content r.instance_uid)
    (And (one_of error_response_columns r.error_response)
    (And (one_of remote_config_columns r.remote_config)
    (And (one_of connection_offers_columns r.connection_settings)
    (And (one_of packages_available_columns r.packages_available)
    (And (Number r.flags)
    (And (Number r.capabilities)
    (And (one_of identification_columns r.agent_identification)
    (And (one_of command_columns r.command)
    (And (one_of custom_capabilities_columns r.custom_capabilities)
    (And (one_of custom_message_columns r.custom_message) End))))))))))

-- the rows and the columns of a reply from its flags on
abbrev pub later_rows : List Row
later_rows = drop 5 (rows_of ServerToAgentTable)

abbrev pub later_columns : ServerToAgent → Values
later_columns r =
    And (Number r.flags)
    (And (Number r.capabilities)
    (And (one_of identification_columns r.agent_identification)
    (And (one_of command_columns r.command)
    (And (one_of custom_capabilities_columns r.custom_capabilities)
    (And (one_of custom_message_columns r.custom_message) End)))))
