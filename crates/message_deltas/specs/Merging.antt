-- What a report says of its agent's state (OpAMP specification, "Agent Status Compression": a field that is left out
-- of a report has not changed).
use Rattle.std.specs.Prelude.{ℕ, List, [], Option, None, unwrap_or}
use Rattle.std.specs.Option.{option_map, option_or}
use Rattle.message_values.specs.declared.attributes.AgentDescription.{AgentDescription}
use Rattle.message_values.specs.declared.components.AvailableComponents.{AvailableComponents}
use Rattle.message_values.specs.declared.custom.CustomCapabilities.{CustomCapabilities}
use Rattle.message_values.specs.declared.report.AgentToServer.{AgentToServer}
use Rattle.message_values.specs.declared.state.State.{State}
use Rattle.message_deltas.specs.declared.fields.CarriedFields.{CarriedFields}

-- the hash that is carried with or without the components
abbrev pub hash_in : Option AvailableComponents → Option (List ℕ)
hash_in carried = option_map (λ c. c.hash) carried

-- the parts of a state that a report carries
abbrev pub carried_fields : AgentToServer → CarriedFields
carried_fields m = record {
  description = m.agent_description;
  capabilities = m.capabilities;
  health = m.health;
  effective = m.effective_config;
  remote = m.remote_config_status;
  packages = m.package_statuses;
  components = hash_in m.available_components;
  custom = m.custom_capabilities;
}

-- the state, with the carried fields in place of its own
abbrev pub state_with : State → CarriedFields → State
state_with s fields = record {
  description = unwrap_or fields.description s.description;
  capabilities = fields.capabilities;
  health = option_or fields.health s.health;
  effective = option_or fields.effective s.effective;
  remote = option_or fields.remote s.remote;
  packages = option_or fields.packages s.packages;
  components = option_or fields.components s.components;
  custom = unwrap_or fields.custom s.custom;
}

-- the state after a report that leaves out what has not changed
abbrev pub merged_state : State → AgentToServer → State
merged_state s m = state_with s (carried_fields m)

abbrev pub no_description : AgentDescription
no_description = record { identifying_attributes = []; non_identifying_attributes = [] }

abbrev pub no_custom : CustomCapabilities
no_custom = record { capabilities = [] }

-- the state of which nothing is reported
abbrev pub empty_state : State
empty_state = record { description = no_description; capabilities = 0; health = None; effective = None; remote = None; packages = None; components = None; custom = no_custom }

-- the state that a full report says: an absent field isn't there, and absent custom capabilities are none
abbrev pub state_of : AgentToServer → State
state_of m = merged_state empty_state m
