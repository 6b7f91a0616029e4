-- An agent's half of the world: what it knows, what it keeps, and where it stands with its server. Nothing is left out of a state here.
use Rattle.std.specs.Prelude.{ℕ, List, [], Bool, false, not, ◌&&◌, ◌||◌, ◌==◌, length, if◌then◌else◌, Option, None, is_none, unwrap_or, bytes_eq}
use Rattle.plain_values.specs.declared.files.AgentConfigMap.{AgentConfigMap}
use Rattle.message_values.specs.declared.config.RemoteConfigStatus.{RemoteConfigStatus}
use Rattle.message_values.specs.declared.custom.CustomMessage.{CustomMessage}
use Rattle.message_values.specs.declared.packages.PackageStatuses.{PackageStatuses}
use Rattle.message_values.specs.declared.state.Settings.{Settings}
use Rattle.std.specs.Prelude.{pos}
use Rattle.message_values.specs.declared.state.State.{State}
use Rattle.message_values.specs.declared.profile.TheConstants.{REPORTS_AVAILABLE_COMPONENTS}
use Rattle.agent_rules.specs.declared.saved.Saved.{Saved}
use Rattle.message_deltas.specs.Obligations.{has_bit}
use Rattle.agent_rules.specs.declared.rules.parts.LocalState.{LocalState}
use Rattle.agent_rules.specs.Reports.{Entry, state_of_agent, basis_for, message_of, fits_bytes, where_true}

pub record AgentHalf : Type 0 where
  -- what the agent knows by its own means
  pub local : LocalState
  -- what is in use of what it keeps, and whether it was ever kept
  pub saved : Saved
  pub is_kept : Bool
  -- how many bytes may be kept
  pub room : ℕ
  -- at this start the agent was told to ask for an identifier until a server has given one
  pub asks_uid : Bool
  -- the number of the next report
  pub next : ℕ
  -- the last report's answer is awaited
  pub awaits : Bool
  -- the state reported last, if the agent reported since its start, and whether that report had the details of the components
  pub last : Option State
  pub detailed : Bool
  -- the last report was answered without a wish for the full state, and since then there was no new identifier, and no trial begun or abandoned
  pub linked : Bool
  -- its answer asks for the details of the components
  pub wants_details : Bool
  -- the settings under trial, and whether they have their proof
  pub trial : Option Settings
  pub proved : Bool
  -- the hash of the last settings whose trial was abandoned since the start
  pub abandoned : Option (List ℕ)
  -- the custom message that waits for the next report
  pub message : Option CustomMessage

-- what is kept, or nothing yet
abbrev pub kept_part : AgentHalf → Option Saved
kept_part a = where_true a.is_kept a.saved

-- the settings by which the next report is sent
abbrev pub target : AgentHalf → Settings
target a = unwrap_or a.trial a.saved.settings

-- the state that the next report tells
abbrev pub state_now : AgentHalf → State
state_now a = state_of_agent a.local a.saved

-- nothing is in it
abbrev pub is_empty : {T : Type 0} → List T → Bool
is_empty xs = length xs == 0

-- a server answered the details of other components last
abbrev pub is_news : List ℕ → List ℕ → Bool
is_news kept now = not (is_empty kept) && not (bytes_eq kept now)

-- the next report carries the details of the components
abbrev pub due_details : AgentHalf → Bool
due_details a =
    has_bit a.local.capabilities REPORTS_AVAILABLE_COMPONENTS
    && (not (is_empty a.local.components.components)
    && (a.wants_details || (is_none a.last && is_news a.saved.components_hash a.local.components.hash)))

-- the entry that a report with this custom message makes
abbrev pub entry_with : AgentHalf → Option CustomMessage → Entry
entry_with a message = record {
  server = (target a).endpoint;
  uid = a.saved.uid;
  number = a.next;
  state = state_now a;
  details = where_true (due_details a) a.local.components;
  asks_uid = a.asks_uid && not a.saved.uid_given;
  message = message;
  basis = basis_for a.linked a.last (state_now a) (due_details a);
}

-- the entry that a report makes: the waiting message is left out where the report would be too long with it
abbrev pub entry_of : AgentHalf → Entry
entry_of a = if fits_bytes (message_of (entry_with a a.message)) then entry_with a a.message else entry_with a None

-- no configuration
abbrev pub no_config : AgentConfigMap
no_config = record { config_map = [] }

-- no configuration was offered
abbrev pub no_remote : RemoteConfigStatus
no_remote = record { last_remote_config_hash = []; status = pos 0; error_message = [] }

-- no package, and none was offered
abbrev pub no_packages : PackageStatuses
no_packages = record { packages = []; server_provided_all_packages_hash = []; error_message = [] }

-- what is in use while nothing is kept
abbrev pub first_saved : List ℕ → Settings → Saved
first_saved uid first = record {
  uid = uid;
  limit = 1;
  uid_given = false;
  settings = first;
  config = no_config;
  config_hash = [];
  remote = no_remote;
  packages = no_packages;
  components_hash = [];
}

-- an agent that starts: it goes on at the first number that isn't reserved, and its first report is whole
abbrev pub started : LocalState → Saved → Bool → ℕ → Bool → AgentHalf
started local saved is_kept room asks_uid = record {
  local = local;
  saved = saved;
  is_kept = is_kept;
  room = room;
  asks_uid = asks_uid;
  next = saved.limit;
  awaits = false;
  last = None;
  detailed = false;
  linked = false;
  wants_details = false;
  trial = None;
  proved = false;
  abandoned = None;
  message = None;
}

-- the agent starts again with what it keeps, as it was started before
abbrev pub restarted : AgentHalf → AgentHalf
restarted a = started a.local a.saved a.is_kept a.room a.asks_uid
