-- What an agent reports of itself (OpAMP specification, "Status Reporting", "Agent Status Compression").
use Rattle.std.specs.Prelude.{ℕ, List, length, Bool, not, ◌&&◌, nat_le, if◌then◌else◌, Option, None, Some}
use Rattle.message_values.specs.declared.components.AvailableComponents.{AvailableComponents}
use Rattle.message_values.specs.declared.custom.CustomMessage.{CustomMessage}
use Rattle.message_values.specs.declared.report.AgentToServer.{AgentToServer}
use Rattle.message_values.specs.declared.state.State.{State}
use Rattle.message_values.specs.declared.profile.TheConstants.{REQUEST_INSTANCE_UID}
use Rattle.agent_rules.specs.declared.saved.Saved.{Saved}
use Rattle.message_codec.specs.Levels.{most_bytes}
use Rattle.message_reports.specs.Reports.{canonical_report, report_levels}
use Rattle.std.specs.Option.{option_map}
use Rattle.message_deltas.specs.Obligations.{obliged}
use Rattle.message_deltas.specs.Deltas.{Details, whole_report, delta_report, must_be_whole}
use Rattle.agent_rules.specs.declared.rules.parts.LocalState.{LocalState}

-- a value, where this holds
abbrev pub where_true : {T : Type 0} → Bool → T → Option T
where_true holds value = if holds then Some value else None

-- an agent's state: what it knows of itself and what it keeps, as far as its capabilities oblige to it
abbrev pub state_of_agent : LocalState → Saved → State
state_of_agent l s = record {
  description = l.description;
  capabilities = l.capabilities;
  health = where_true (obliged l.capabilities).health l.health;
  effective = where_true (obliged l.capabilities).effective l.effective;
  remote = where_true (obliged l.capabilities).remote s.remote;
  packages = where_true (obliged l.capabilities).packages s.packages;
  components = where_true (obliged l.capabilities).components l.components.hash;
  custom = l.custom;
}

-- a report that was sent, with the whole state that it stands for
pub record Entry : Type 0 where
  -- the endpoint of the server that it was sent to
  pub server : List ℕ
  pub uid : List ℕ
  pub number : ℕ
  pub state : State
  -- the components, where it carries their details
  pub details : Option AvailableComponents
  -- it asks for a new identifier
  pub asks_uid : Bool
  pub message : Option CustomMessage
  -- it is alone; or it stands on the entry sent just before it, of which this is the state
  pub basis : Option State

-- the components that are told
abbrev pub components_in : Option AvailableComponents → Details
components_in told = option_map (λ t. t.components) told

-- all of the entry's state, or what differs from the state that it stands on
abbrev pub report_on : Option State → Entry → AgentToServer
report_on None e = whole_report e.uid e.number e.state (components_in e.details)
report_on (Some before) e = delta_report e.uid e.number before e.state (components_in e.details)

-- what is sent of an entry
abbrev pub message_of : Entry → AgentToServer
message_of e = record (report_on e.basis e) { flags = if e.asks_uid then REQUEST_INSTANCE_UID else 0; custom_message = e.message }

-- what a new report may stand on: the state reported last, where the server knows it and a report of the changes says what is new
abbrev pub basis_for : Bool → Option State → State → Bool → Option State
basis_for linked None now detailed = None
basis_for linked (Some last) now detailed = if linked && not (must_be_whole last now detailed) then Some last else None

-- the message's canonical form has at most 4,194,304 bytes
unfoldable pub fits_bytes : AgentToServer → Bool
fits_bytes m = nat_le (length (canonical_report m)) most_bytes

-- and messages nest at most 100 levels deep
unfoldable pub fits_message : AgentToServer → Bool
fits_message m = nat_le (length (canonical_report m)) most_bytes && nat_le (report_levels m) 100
