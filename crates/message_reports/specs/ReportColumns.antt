-- The columns of a report, row by row of its table (OpAMP specification, "AgentToServer Message").
use Rattle.std.specs.Prelude.{List, drop}
use Rattle.message_codec.specs.Tables.{AgentToServer as AgentToServerTable, Row, rows_of}
use Rattle.message_values.specs.declared.attributes.AgentDescription.{AgentDescription}
use Rattle.message_values.specs.declared.report.AgentDisconnect.{AgentDisconnect}
use Rattle.message_values.specs.declared.report.AgentToServer.{AgentToServer}
use Rattle.message_codec.specs.Values.{Number, Content, Several, Values, End, And}
use Rattle.message_codec.specs.Read.{one_of, each_of}
use Rattle.message_attributes.specs.AnyColumns.{pair_columns}
use Rattle.message_attributes.specs.PartColumns.{custom_capabilities_columns, custom_message_columns}
use Rattle.message_reports.specs.HealthColumns.{health_columns, health_draft_columns}
use Rattle.message_reports.specs.ComponentColumns.{available_components_columns, available_components_draft_columns}
use Rattle.message_reports.specs.Columns.{effective_config_columns, effective_config_draft_columns, remote_config_status_columns, package_statuses_columns, package_statuses_draft_columns}
use Rattle.message_reports.specs.declared.report.AgentToServerDraft.{AgentToServerDraft}

abbrev pub agent_description_columns : AgentDescription → Values
agent_description_columns d = And (Several (each_of pair_columns d.identifying_attributes)) (And (Several (each_of pair_columns d.non_identifying_attributes)) End)

abbrev pub agent_disconnect_columns : AgentDisconnect → Values
agent_disconnect_columns d = End

abbrev pub agent_to_server_columns : AgentToServer → Values
agent_to_server_columns r =
    And (Content r.instance_uid)
    (And (Number r.sequence_num)
    (And (one_of agent_description_columns r.agent_description)
    (And (Number r.capabilities)
    (And (one_of health_columns r.health)
    (And (one_of effective_config_columns r.effective_config)
    (And (one_of remote_config_status_columns r.remote_config_status)
    (And (one_of package_statuses_columns r.package_statuses)
    (And (one_of agent_disconnect_columns r.agent_disconnect)
    (And (Number r.flags)
    (And (one_of custom_capabilities_columns r.custom_capabilities)
    (And (one_of custom_message_columns r.custom_message)
    (And (one_of available_components_columns r.available_components) End))))))))))))

-- the columns of a report that is read, those that hold maps as they came
abbrev pub agent_to_server_draft_columns : AgentToServerDraft → Values
agent_to_server_draft_columns r =
    And (Content r.report.instance_uid)
    (And (Number r.report.sequence_num)
    (And (one_of agent_description_columns r.report.agent_description)
    (And (Number r.report.capabilities)
    (And (one_of health_draft_columns r.health)
    (And (one_of effective_config_draft_columns r.effective_config)
    (And (one_of remote_config_status_columns r.report.remote_config_status)
    (And (one_of package_statuses_draft_columns r.package_statuses)
    (And (one_of agent_disconnect_columns r.report.agent_disconnect)
    (And (Number r.report.flags)
    (And (one_of custom_capabilities_columns r.report.custom_capabilities)
    (And (one_of custom_message_columns r.report.custom_message)
    (And (one_of available_components_draft_columns r.available_components) End))))))))))))

-- the rows and the columns of a report from its package statuses on
abbrev pub later_rows : List Row
later_rows = drop 7 (rows_of AgentToServerTable)

abbrev pub later_columns : AgentToServer → Values
later_columns r =
    And (one_of package_statuses_columns r.package_statuses)
    (And (one_of agent_disconnect_columns r.agent_disconnect)
    (And (Number r.flags)
    (And (one_of custom_capabilities_columns r.custom_capabilities)
    (And (one_of custom_message_columns r.custom_message)
    (And (one_of available_components_columns r.available_components) End)))))
