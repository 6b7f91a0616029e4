-- What an agent may leave out of a report (OpAMP specification, "Agent Status Compression").
use Rattle.std.specs.Prelude.{◌≡◌, ◌≢◌, ℕ, List, Bool, not, ◌&&◌, ◌||◌, ◌==◌, IsTrue, Option, None, Some, is_some, IfSome, [], unwrap_or, if◌then◌else◌, ◌⊎◌}
use Rattle.std.specs.Coded.{Coded, coded_option}
use Rattle.std.specs.Option.{option_map}
use Rattle.message_values.specs.contracts.attributes.AgentDescription as description
use Rattle.message_values.specs.contracts.config.EffectiveConfig as effective
use Rattle.message_values.specs.contracts.config.RemoteConfigStatus as remote
use Rattle.message_values.specs.contracts.custom.CustomCapabilities as custom
use Rattle.message_values.specs.contracts.health.ComponentHealth as health
use Rattle.message_values.specs.contracts.packages.PackageStatuses as packages
use Rattle.plain_values.specs.contracts.texts.Blob as blob
use Rattle.message_values.specs.declared.components.AvailableComponents.{AvailableComponents}
use Rattle.message_values.specs.declared.components.ComponentDetails.{ComponentDetails}
use Rattle.plain_values.specs.declared.maps.Pair.{Pair}
use Rattle.message_values.specs.declared.report.AgentToServer.{AgentToServer}
use Rattle.message_values.specs.declared.state.State.{State}
use Rattle.message_deltas.specs.Obligations.{obliged}
use Rattle.message_deltas.specs.Merging.{hash_in}
use Rattle.message_deltas.specs.Sameness.{same, where_differs}

-- the components by their names, where a report tells them beside their hash
abbrev pub Details : Type 0
Details = Option (List (Pair ComponentDetails))

-- the components under a hash, which may be told by the hash alone
abbrev pub told_under : Details → List ℕ → AvailableComponents
told_under details hash = record { components = unwrap_or details []; hash = hash }

-- the report of a whole state, with each part that the state has
abbrev pub whole_report : List ℕ → ℕ → State → Details → AgentToServer
whole_report uid number s details = record {
  instance_uid = uid;
  sequence_num = number;
  agent_description = Some s.description;
  capabilities = s.capabilities;
  health = s.health;
  effective_config = s.effective;
  remote_config_status = s.remote;
  package_statuses = s.packages;
  agent_disconnect = None;
  flags = 0;
  custom_capabilities = Some s.custom;
  custom_message = None;
  available_components = option_map (told_under details) s.components;
}

-- the hash that a report of changes carries: in any case where it comes with details
unfoldable pub hash_carried : Bool → Option (List ℕ) → Option (List ℕ) → Option (List ℕ)
hash_carried detailed before now = if detailed then now else where_differs blob.the_row.coded before now

-- the report of the changes from the state reported before to the state now: the parts that differ, and no others but
-- details
abbrev pub delta_report : List ℕ → ℕ → State → State → Details → AgentToServer
delta_report uid number before now details = record {
  instance_uid = uid;
  sequence_num = number;
  agent_description = where_differs description.the_row.coded (Some before.description) (Some now.description);
  capabilities = now.capabilities;
  health = where_differs health.the_row.coded before.health now.health;
  effective_config = where_differs effective.the_row.coded before.effective now.effective;
  remote_config_status = where_differs remote.the_row.coded before.remote now.remote;
  package_statuses = where_differs packages.the_row.coded before.packages now.packages;
  agent_disconnect = None;
  flags = 0;
  custom_capabilities = where_differs custom.the_row.coded (Some before.custom) (Some now.custom);
  custom_message = None;
  available_components = option_map (told_under details) (hash_carried (is_some details) before.components now.components);
}

-- where the part is obliged it differs
unfoldable pub differs_where : {T : Type 0} → Bool → Coded T → Option T → Option T → Bool
differs_where owed code before now = not owed || not (same (coded_option code) before now)

-- the description and each part that is obliged now differ; components with details count as differing
unfoldable pub differs_in_all : State → State → Bool → Bool
differs_in_all before now detailed =
    not (same description.the_row.coded before.description now.description)
    && (differs_where (obliged now.capabilities).health health.the_row.coded before.health now.health
    && (differs_where (obliged now.capabilities).effective effective.the_row.coded before.effective now.effective
    && (differs_where (obliged now.capabilities).remote remote.the_row.coded before.remote now.remote
    && (differs_where (obliged now.capabilities).packages packages.the_row.coded before.packages now.packages
    && differs_where ((obliged now.capabilities).components && not detailed) blob.the_row.coded before.components now.components))))

-- no delta may say the change: the capabilities differ, or a delta would be full
abbrev pub must_be_whole : State → State → Bool → Bool
must_be_whole before now detailed = not (before.capabilities == now.capabilities) || differs_in_all before now detailed

-- a part is carried exactly where it differs
abbrev pub CarriesChange : {T : Type 0} → Option T → Option T → Option T → Type 0
CarriesChange old new carried = ((old ≡ new) × (carried ≡ None)) ⊎ ((old ≢ new) × (carried ≡ new))

-- the hash alone is carried where it differs; details are carried with it in any case
abbrev pub CarriesComponents : Details → Option (List ℕ) → Option (List ℕ) → Option AvailableComponents → Type 0
CarriesComponents None old new carried = CarriesChange old new (hash_in carried) × IfSome carried (λ c. c.components ≡ [])
CarriesComponents (Some details) old new carried = carried ≡ option_map (λ hash. record { components = details; hash = hash }) new

-- what a report of changes is, with no word of codes
pub record IsDelta (uid : List ℕ) (number : ℕ) (before now : State) (details : Details) (m : AgentToServer) : Type 0 where
  pub instance_uid : m.instance_uid ≡ uid
  pub sequence_num : m.sequence_num ≡ number
  pub description : CarriesChange (Some before.description) (Some now.description) m.agent_description
  pub capabilities : m.capabilities ≡ now.capabilities
  pub health : CarriesChange before.health now.health m.health
  pub effective : CarriesChange before.effective now.effective m.effective_config
  pub remote : CarriesChange before.remote now.remote m.remote_config_status
  pub packages : CarriesChange before.packages now.packages m.package_statuses
  pub disconnect : m.agent_disconnect ≡ None
  pub flags : m.flags ≡ 0
  pub custom : CarriesChange (Some before.custom) (Some now.custom) m.custom_capabilities
  pub message : m.custom_message ≡ None
  pub components : CarriesComponents details before.components now.components m.available_components

-- that the description and each obliged part differ, with no word of codes
pub record DiffersInAll (before now : State) (detailed : Bool) : Type 0 where
  pub description : before.description ≢ now.description
  pub health : IsTrue (obliged now.capabilities).health → before.health ≢ now.health
  pub effective : IsTrue (obliged now.capabilities).effective → before.effective ≢ now.effective
  pub remote : IsTrue (obliged now.capabilities).remote → before.remote ≢ now.remote
  pub packages : IsTrue (obliged now.capabilities).packages → before.packages ≢ now.packages
  pub components : IsTrue (obliged now.capabilities).components → IsTrue (not detailed) → before.components ≢ now.components

-- that the capabilities differ or a delta would be full, with no word of codes
abbrev pub MustBeWhole : State → State → Bool → Type 0
MustBeWhole before now detailed = (before.capabilities ≢ now.capabilities) ⊎ DiffersInAll before now detailed
