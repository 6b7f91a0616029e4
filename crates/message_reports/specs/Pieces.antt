-- A report or a part of one that is open.
use Rattle.message_codec.specs.Tables as tables
use Rattle.message_codec.specs.Tables.{Name}
use Rattle.message_codec.specs.Values.{Values}
use Rattle.message_codec.specs.Means.{entry_of}
use Rattle.message_attributes.specs.Pieces as attributes
use Rattle.message_attributes.specs.PartColumns.{config_map_draft_columns, config_file_columns, custom_capabilities_columns, custom_message_columns}
use Rattle.message_reports.specs.HealthColumns.{health_draft_columns, health_entry_draft_columns}
use Rattle.message_reports.specs.ComponentColumns.{available_components_draft_columns, details_draft_columns, details_entry_draft_columns}
use Rattle.message_reports.specs.Columns.{effective_config_draft_columns, package_status_columns, package_statuses_draft_columns, remote_config_status_columns}
use Rattle.message_reports.specs.ReportColumns.{agent_description_columns, agent_disconnect_columns, agent_to_server_draft_columns}
use Rattle.message_reports.specs.declared.report_parts.ReportPart.{ReportPart}
use Rattle.message_reports.specs.declared.report_parts.ReportPart.TheVariants as parts

abbrev pub part_name : ReportPart → Name
part_name (parts.Report m) = tables.AgentToServer
part_name (parts.Description m) = tables.AgentDescription
part_name (parts.Health m) = tables.ComponentHealth
part_name (parts.HealthEntry m) = tables.Entry tables.ComponentHealth
part_name (parts.EffectiveConfig m) = tables.EffectiveConfig
part_name (parts.ConfigMap m) = tables.AgentConfigMap
part_name (parts.ConfigEntry m) = tables.Entry tables.AgentConfigFile
part_name (parts.ConfigFile m) = tables.AgentConfigFile
part_name (parts.RemoteStatus m) = tables.RemoteConfigStatus
part_name (parts.Packages m) = tables.PackageStatuses
part_name (parts.PackageEntry m) = tables.Entry tables.PackageStatus
part_name (parts.Package m) = tables.PackageStatus
part_name (parts.Disconnect m) = tables.AgentDisconnect
part_name (parts.CustomCapabilities m) = tables.CustomCapabilities
part_name (parts.CustomMessage m) = tables.CustomMessage
part_name (parts.Components m) = tables.AvailableComponents
part_name (parts.Details m) = tables.ComponentDetails
part_name (parts.DetailsEntry m) = tables.Entry tables.ComponentDetails
part_name (parts.Attribute m) = attributes.part_name m

abbrev pub part_columns : ReportPart → Values
part_columns (parts.Report m) = agent_to_server_draft_columns m
part_columns (parts.Description m) = agent_description_columns m
part_columns (parts.Health m) = health_draft_columns m
part_columns (parts.HealthEntry m) = health_entry_draft_columns m
part_columns (parts.EffectiveConfig m) = effective_config_draft_columns m
part_columns (parts.ConfigMap m) = config_map_draft_columns m
part_columns (parts.ConfigEntry m) = entry_of config_file_columns m
part_columns (parts.ConfigFile m) = config_file_columns m
part_columns (parts.RemoteStatus m) = remote_config_status_columns m
part_columns (parts.Packages m) = package_statuses_draft_columns m
part_columns (parts.PackageEntry m) = entry_of package_status_columns m
part_columns (parts.Package m) = package_status_columns m
part_columns (parts.Disconnect m) = agent_disconnect_columns m
part_columns (parts.CustomCapabilities m) = custom_capabilities_columns m
part_columns (parts.CustomMessage m) = custom_message_columns m
part_columns (parts.Components m) = available_components_draft_columns m
part_columns (parts.Details m) = details_draft_columns m
part_columns (parts.DetailsEntry m) = details_entry_draft_columns m
part_columns (parts.Attribute m) = attributes.part_columns m
