-- Reports that tell little: a report leaves out what hasn't changed since the one before (OpAMP specification, "AgentToServer Message").
use Rattle.std.specs.Prelude.{ℕ, Bool, true, false, List, [], ◌∷◌, ◌++◌, Option, None, Some, option_map}
use Rattle.message_values.specs.declared.health.ComponentHealth.{ComponentHealth, roll-ComponentHealth}
use Rattle.message_values.specs.declared.report.AgentToServer.{AgentToServer}
use Rattle.message_short.specs.declared.reading.ShortReport.{ShortReport}
use Rattle.message_short.specs.Numbers.{number_field}

-- the health that tells but whether the agent is healthy ("ComponentHealth Message")
abbrev pub health_of : Bool → ComponentHealth
health_of healthy = roll-ComponentHealth (record {
  healthy = healthy;
  start_time_unix_nano = 0;
  last_error = [];
  status = [];
  status_time_unix_nano = 0;
  component_health_map = [];
})

-- the report that tells what the short one does, and nothing else
abbrev pub report_of : ShortReport → AgentToServer
report_of short = record {
  instance_uid = short.instance_uid;
  sequence_num = short.sequence_num;
  agent_description = None;
  capabilities = short.capabilities;
  health = option_map health_of short.healthy;
  effective_config = None;
  remote_config_status = None;
  package_statuses = None;
  agent_disconnect = None;
  flags = 0;
  custom_capabilities = None;
  custom_message = None;
  available_components = None;
}

-- the field of such a health, which is empty where the agent isn't healthy
abbrev pub health_field : Option Bool → List ℕ
health_field None = []
health_field (Some true) = 42 ∷ 2 ∷ 8 ∷ 1 ∷ []
health_field (Some false) = 42 ∷ 0 ∷ []

-- the fields of a short report in their order: an identifier of 16 bytes, two numbers, and the health
abbrev pub short_bytes : ShortReport → List ℕ
short_bytes short = 10 ∷ 16 ∷ (short.instance_uid ++ (number_field 16 short.sequence_num ++ (number_field 32 short.capabilities ++ health_field short.healthy)))
