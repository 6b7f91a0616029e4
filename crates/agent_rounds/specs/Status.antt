-- What a supervisor holds from one round to the next, and what it tells the agent of itself.
use Rattle.std.specs.Prelude.{ℕ, ◌*◌, ◌-◌, ◌^◌, List, [], ◌∷◌, Bool, true, false, ◌&&◌, ◌==◌, bit_and, min, max, if◌then◌else◌, Option, None, Some, unwrap_or, is_some}
use Rattle.std.specs.Option.{option_and_then, option_map_or}
use Rattle.std.specs.Str.{bytes_eq}
use Rattle.message_values.specs.declared.components.AvailableComponents.{AvailableComponents}
use Rattle.plain_values.specs.declared.files.AgentConfigMap.{AgentConfigMap}
use Rattle.plain_values.specs.declared.headers.Header.{Header}
use Rattle.plain_values.specs.declared.headers.Headers.{Headers}
use Rattle.message_values.specs.declared.custom.CustomCapabilities.{CustomCapabilities}
use Rattle.message_values.specs.declared.attributes.AgentDescription.{AgentDescription}
use Rattle.message_values.specs.declared.health.ComponentHealth.{ComponentHealth, roll-ComponentHealth}
use Rattle.message_values.specs.declared.reply.ServerErrorResponse.{ServerErrorResponse}
use Rattle.message_values.specs.declared.report.AgentToServer.{AgentToServer}
use Rattle.message_values.specs.declared.state.Settings.{Settings}
use Rattle.message_reports.specs.Components.{components_hash}
use Rattle.agent_rules.specs.declared.rules.parts.LocalState.{LocalState}
use Rattle.agent_rules.specs.declared.rules.parts.Next.{Next}
use Rattle.agent_rounds.specs.declared.ends.Pause.{Pause}
use Rattle.agent_rounds.specs.declared.held.Settling.{Settling}

-- the link held, with the agent's identifier and the settings' endpoint and headers with which it was dialled
pub record HeldLink : Type 0 where
  pub number : ℕ
  pub uid : List ℕ
  pub endpoint : List ℕ
  pub headers : Headers

-- the link held or none, whether the area is still to be settled, the status file read last or none, and in how many seconds the collector has to take a
-- configuration that is tried; or none, where its files prove it
pub record HeldView : Type 0 where
  pub link : Option HeldLink
  pub settling : Settling
  pub status : Option AgentToServer
  pub prove : Option ℕ

-- what is held once the link is dropped
abbrev pub without_link : HeldView → HeldView
without_link held = record held { link = None }

-- the two lists have the same names and values in the same order
abbrev pub same_list : List Header → List Header → Bool
same_list [] [] = true
same_list [] (b ∷ others) = false
same_list (a ∷ more) [] = false
same_list (a ∷ more) (b ∷ others) = bytes_eq a.key b.key && (bytes_eq a.value b.value && same_list more others)

-- the link was dialled with these settings' endpoint and headers
abbrev pub has_settings : Settings → HeldLink → Bool
has_settings target link = bytes_eq link.endpoint target.endpoint && same_list link.headers.headers target.headers.headers

-- the link was dialled as an agent of this identifier dials with these settings
abbrev pub is_to : List ℕ → Settings → HeldLink → Bool
is_to uid target link = bytes_eq link.uid uid && has_settings target link

-- the capabilities that an agent of this project may have: these bits alone are taken of its status file
abbrev pub known_capabilities : ℕ
known_capabilities = 32031

-- a description, a health, components that say nothing
abbrev pub no_description : AgentDescription
no_description = record { identifying_attributes = []; non_identifying_attributes = [] }

abbrev pub no_health : ComponentHealth
no_health = roll-ComponentHealth (record { healthy = false; start_time_unix_nano = 0; last_error = []; status = []; status_time_unix_nano = 0; component_health_map = [] })

abbrev pub no_components : AvailableComponents
no_components = record { components = []; hash = [] }

-- the components with the hash that the agent tells of them
abbrev pub with_hash : AvailableComponents → AvailableComponents
with_hash told = record { components = told.components; hash = components_hash told.components }

-- What an agent knows of itself, by the status file read last, with these files as its active configuration and these names of its handlers. Without a
-- status file it reports its status and its health.
abbrev pub local_by : Option AgentToServer → AgentConfigMap → CustomCapabilities → LocalState
local_by None active names = record {
  description = no_description;
  capabilities = 2049;
  health = no_health;
  effective = record { config_map = Some active };
  components = no_components;
  custom = names;
}
local_by (Some status) active names = record {
  description = unwrap_or status.agent_description no_description;
  capabilities = bit_and status.capabilities known_capabilities;
  health = unwrap_or status.health no_health;
  effective = unwrap_or status.effective_config (record { config_map = Some active });
  components = option_map_or with_hash status.available_components no_components;
  custom = names;
}

-- the seconds of an interval: 0 stands for 30
abbrev pub seconds_of : ℕ → ℕ
seconds_of interval = if interval == 0 then 30 else interval

-- how long a server asks to wait with the next report
abbrev pub retry_of : Option ServerErrorResponse → ℕ
retry_of error = option_map_or (λ retry. retry.retry_after_nanoseconds) (option_and_then (λ e. e.retry_info) error) 0

-- the wait between rounds in nanoseconds, the longer of the two
abbrev pub pause_of : ℕ → Option ServerErrorResponse → ℕ
pause_of interval error = min (max (seconds_of interval * 1000000000) (retry_of error)) (2 ^ 64 - 1)

-- the next round follows at once: after a wish for the full state, a trial begun or a restart command
abbrev pub is_urgent : Next → Bool
is_urgent next = if next.full then true else (if is_some next.connection then true else next.restart)

-- the wait after an answer that asked this
abbrev pub pause_after : Next → ℕ → Pause
pause_after next interval = record {
  restart = next.restart;
  nanos = if is_urgent next then None else Some (pause_of interval next.error);
}
