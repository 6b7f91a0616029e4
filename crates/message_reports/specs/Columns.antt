-- The columns of the parts of a report, row by row of their tables (OpAMP specification, "opamp.proto").
use Rattle.message_values.specs.declared.config.EffectiveConfig.{EffectiveConfig}
use Rattle.message_values.specs.declared.config.RemoteConfigStatus.{RemoteConfigStatus}
use Rattle.message_values.specs.declared.packages.PackageStatus.{PackageStatus}
use Rattle.message_values.specs.declared.packages.PackageStatuses.{PackageStatuses}
use Rattle.message_attributes.specs.PartColumns.{config_map_columns, config_map_draft_columns}
use Rattle.message_codec.specs.Values.{Integer, Content, Several, Values, End, And}
use Rattle.message_codec.specs.Means.{entries_of}
use Rattle.message_codec.specs.Read.{one_of, arrived_of}
use Rattle.message_reports.specs.declared.config.EffectiveConfigDraft.{EffectiveConfigDraft}
use Rattle.message_reports.specs.declared.packages.PackageStatusesDraft.{PackageStatusesDraft}

abbrev pub effective_config_columns : EffectiveConfig → Values
effective_config_columns c = And (one_of config_map_columns c.config_map) End

abbrev pub effective_config_draft_columns : EffectiveConfigDraft → Values
effective_config_draft_columns c = And (one_of config_map_draft_columns c.config_map) End

abbrev pub remote_config_status_columns : RemoteConfigStatus → Values
remote_config_status_columns r = And (Content r.last_remote_config_hash) (And (Integer r.status) (And (Content r.error_message) End))

abbrev pub package_status_columns : PackageStatus → Values
package_status_columns p = And (Content p.name) (And (Content p.agent_has_version) (And (Content p.agent_has_hash) (And (Content p.server_offered_version) (And (Content p.server_offered_hash) (And (Integer p.status) (And (Content p.error_message) End))))))

abbrev pub package_statuses_columns : PackageStatuses → Values
package_statuses_columns p = And (Several (entries_of package_status_columns p.packages)) (And (Content p.server_provided_all_packages_hash) (And (Content p.error_message) End))

abbrev pub package_statuses_draft_columns : PackageStatusesDraft → Values
package_statuses_draft_columns p = And (Several (arrived_of package_status_columns p.packages)) (And (Content p.server_provided_all_packages_hash) (And (Content p.error_message) End))
