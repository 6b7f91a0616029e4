-- What a reply asks of the agent's caller, and what becomes of what it offers.
use Rattle.std.specs.Prelude.{ℕ, List, [], ◌∷◌, Bool, true, false, not, ◌&&◌, ◌||◌, length, nat_le, if◌then◌else◌, Option, None, Some, is_none, unwrap_or, codes, bytes_eq}
use Rattle.std.specs.List.{list_all}
use Rattle.std.specs.Option.{option_and_then, option_map_or}
use Rattle.std.specs.Ordering.{int_eq}
use Rattle.plain_values.specs.declared.files.AgentConfigMap.{AgentConfigMap}
use Rattle.message_values.specs.declared.config.AgentRemoteConfig.{AgentRemoteConfig}
use Rattle.message_values.specs.declared.config.RemoteConfigStatus.{RemoteConfigStatus}
use Rattle.message_values.specs.declared.connection.ConnectionSettingsOffers.{ConnectionSettingsOffers}
use Rattle.plain_values.specs.declared.headers.Header.{Header}
use Rattle.message_values.specs.declared.connection.OpAMPConnectionSettings.{OpAMPConnectionSettings}
use Rattle.message_values.specs.declared.custom.CustomMessage.{CustomMessage}
use Rattle.message_values.specs.declared.packages.PackageStatuses.{PackageStatuses}
use Rattle.message_values.specs.declared.packages.PackagesAvailable.{PackagesAvailable}
use Rattle.message_values.specs.declared.reply.ServerToAgent.{ServerToAgent}
use Rattle.message_values.specs.declared.reply.ServerToAgentCommand.{ServerToAgentCommand}
use Rattle.message_values.specs.declared.state.Settings.{Settings}
use Rattle.message_values.specs.declared.profile.TheConstants.{ACCEPTS_CONNECTION_SETTINGS, ACCEPTS_PACKAGES, ACCEPTS_REMOTE_CONFIG, APPLIED, FAILED, RESTART}
use Rattle.http_header.specs.Token.{lowercase, is_token_byte, is_value_byte}
use Rattle.message_deltas.specs.Obligations.{has_bit}
use Rattle.edge_devices.specs.Names.{are_good_names}
use Rattle.edge_devices.specs.Endpoints.{is_endpoint}
use Rattle.agent_rules.specs.declared.rules.parts.Next.{Next}
use Rattle.agent_rules.specs.Reports.{where_true}
use Rattle.agent_rules.specs.Half.{AgentHalf, is_empty, no_config}
use Rattle.agent_rules.specs.Keeping.{Call, CommitTry, AbandonTry, ConfigDone, Heard, Commanded, Failed, Asked, Plain, heard_in, fits}
use Rattle.agent_rules.specs.Calls.{told, calls_after}

-- how a trial ends, if there is one: without its proof, or where there is no room for it, it is abandoned
abbrev pub trial_calls : AgentHalf → List Call
trial_calls a = if is_none a.trial then [] else if a.proved && fits a CommitTry then CommitTry ∷ [] else AbandonTry ∷ []

-- the agent once its trial has ended
abbrev pub without_trial : AgentHalf → AgentHalf
without_trial a = calls_after a (trial_calls a)

-- the offer tells the hash of what is held; an empty hash tells nothing
abbrev pub tells_hash : List ℕ → List ℕ → Bool
tells_hash offered held = not (is_empty offered) && bytes_eq offered held

-- a configuration that is offered to an agent with these capabilities, where it isn't the one that it holds
abbrev pub config_due : ℕ → List ℕ → AgentRemoteConfig → Option AgentRemoteConfig
config_due capabilities held offer = where_true (has_bit capabilities ACCEPTS_REMOTE_CONFIG && not (tells_hash offer.config_hash held)) offer

abbrev pub packages_due : ℕ → List ℕ → PackagesAvailable → Option PackagesAvailable
packages_due capabilities held offer = where_true (has_bit capabilities ACCEPTS_PACKAGES && not (tells_hash offer.all_packages_hash held)) offer

-- the offered settings are the active ones, or those abandoned last
abbrev pub is_known : List ℕ → Option (List ℕ) → List ℕ → Bool
is_known active abandoned hash = tells_hash hash active || option_map_or (tells_hash hash) abandoned false

abbrev pub connection_due : ℕ → List ℕ → Option (List ℕ) → ConnectionSettingsOffers → Option OpAMPConnectionSettings
connection_due capabilities active abandoned offer =
    if has_bit capabilities ACCEPTS_CONNECTION_SETTINGS && not (is_known active abandoned offer.hash) then offer.opamp else None

-- the files that a configuration offer offers
abbrev pub offered_files : AgentRemoteConfig → AgentConfigMap
offered_files offer = unwrap_or offer.config no_config

-- two names of headers are the same without regard to case (RFC 9110, 5.1)
abbrev pub same_name : List ℕ → List ℕ → Bool
same_name a b = bytes_eq (lowercase a) (lowercase b)

-- the names of headers that a request has of its own (RFC 9112, 3.2 and 6; RFC 9110, 7.6.1 and 8.3), the last one being the agent's identifier
unfoldable pub is_own_name : List ℕ → Bool
is_own_name name =
    same_name name (codes "host")
    || (same_name name (codes "connection")
    || (same_name name (codes "content-length")
    || (same_name name (codes "content-type")
    || (same_name name (codes "transfer-encoding")
    || same_name name (codes "opamp-instance-uid")))))

-- the name is a token of at most 65,535 bytes (RFC 9110, 5.1)
abbrev pub is_header_name : List ℕ → Bool
is_header_name name = nat_le 1 (length name) && (nat_le (length name) 65535 && list_all is_token_byte name)

-- a header that may be offered: a field's name that no request has of its own, and a field's value (RFC 9110, 5.5)
unfoldable pub is_offered_header : Header → Bool
is_offered_header header = is_header_name header.key && (not (is_own_name header.key) && list_all is_value_byte header.value)

-- offered settings that may be tried
abbrev pub is_acceptable : OpAMPConnectionSettings → Bool
is_acceptable offer =
    is_none offer.certificate
    && ((is_empty offer.destination_endpoint || is_endpoint offer.destination_endpoint)
    && option_map_or (λ headers. list_all is_offered_header headers.headers) offer.headers true)

-- the offered settings: what they leave out is as in the active ones
abbrev pub offered_settings : Settings → List ℕ → OpAMPConnectionSettings → Settings
offered_settings active hash offer = record {
  endpoint = if is_empty offer.destination_endpoint then active.endpoint else offer.destination_endpoint;
  headers = unwrap_or offer.headers active.headers;
  interval = offer.heartbeat_interval_seconds;
  hash = hash;
}

-- the settings to be tried, if the offered ones are acceptable, and else their endpoint
abbrev pub settings_due : Settings → List ℕ → OpAMPConnectionSettings → Option Settings
settings_due active hash offer = where_true (is_acceptable offer) (offered_settings active hash offer)

abbrev pub refused_due : OpAMPConnectionSettings → Option (List ℕ)
refused_due offer = where_true (not (is_acceptable offer)) offer.destination_endpoint

abbrev pub no_next : Next
no_next = record { full = false; error = None; restart = false; proved = false; config = None; packages = None; connection = None; refused = None; message = None }

-- the command asks for a restart
abbrev pub is_restart : Option ServerToAgentCommand → Bool
is_restart None = false
is_restart (Some command) = int_eq command.kind RESTART

-- the connection that is offered to an agent with these capabilities and settings
abbrev pub offered_to : ℕ → Settings → Option (List ℕ) → ServerToAgent → Option OpAMPConnectionSettings
offered_to capabilities active abandoned reply = option_and_then (connection_due capabilities active.hash abandoned) reply.connection_settings

abbrev pub offered_hash : ServerToAgent → List ℕ
offered_hash reply = option_map_or (λ offer. offer.hash) reply.connection_settings []

-- what an answer asks of an agent that knows this and has taken it, has these settings once its trial has ended, and abandoned those last
abbrev pub asked_by : ServerToAgent → Bool → AgentHalf → Settings → Option (List ℕ) → Next
asked_by reply full a active abandoned = record no_next {
  full = full;
  proved = a.proved;
  config = option_and_then (config_due a.local.capabilities a.saved.remote.last_remote_config_hash) reply.remote_config;
  packages = option_and_then (packages_due a.local.capabilities a.saved.packages.server_provided_all_packages_hash) reply.packages_available;
  connection = option_and_then (settings_due active (offered_hash reply)) (offered_to a.local.capabilities active abandoned reply);
  refused = option_and_then refused_due (offered_to a.local.capabilities active abandoned reply);
  message = reply.custom_message;
}

-- what is asked of an agent that took it: a trial ends first
abbrev pub asked_after : ServerToAgent → Bool → AgentHalf → Next
asked_after reply full a = asked_by reply full a (without_trial a).saved.settings (without_trial a).abandoned

abbrev pub next_in : Heard → ServerToAgent → AgentHalf → Next
next_in Commanded reply a = record no_next { restart = is_restart reply.command }
next_in Failed reply a = record no_next { error = reply.error_response }
next_in Asked reply a = asked_after reply true (told reply a)
next_in Plain reply a = asked_after reply false (told reply a)

-- what a reply asks of the agent's caller
abbrev pub next_of : ServerToAgent → AgentHalf → Next
next_of reply a = next_in (heard_in reply) reply a

-- What the folder, the collector, the dialer and the handler answered to a reply: why the offered files aren't in use, where the folder or the collector
-- failed with them; the statuses of the packages once they were seen to; and the handler's answer.
pub record Reactions : Type 0 where
  pub failure : Option (List ℕ)
  pub statuses : PackageStatuses
  pub answer : Option CustomMessage

abbrev pub status_of : AgentRemoteConfig → RemoteConfigStatus
status_of offer = record { last_remote_config_hash = offer.config_hash; status = APPLIED; error_message = [] }

abbrev pub failed_with : AgentRemoteConfig → List ℕ → RemoteConfigStatus
failed_with offer text = record { last_remote_config_hash = offer.config_hash; status = FAILED; error_message = text }

-- the offered files are applied
abbrev pub applied_call : AgentRemoteConfig → Call
applied_call offer = ConfigDone (Some (offered_files offer)) (status_of offer)

-- they aren't, for this reason
abbrev pub failed_call : AgentRemoteConfig → List ℕ → Call
failed_call offer text = ConfigDone None (failed_with offer text)

-- files with which nothing failed are kept, where there is room for them
abbrev pub room_call : AgentHalf → AgentRemoteConfig → Call
room_call a offer = if fits a (applied_call offer) then applied_call offer else failed_call offer (codes "too large")

-- what becomes of an offered configuration
abbrev pub config_call : AgentHalf → Option (List ℕ) → AgentRemoteConfig → Call
config_call a failure offer =
    if not (are_good_names (offered_files offer).config_map) then failed_call offer (codes "bad name")
    else option_map_or (failed_call offer) failure (room_call a offer)
