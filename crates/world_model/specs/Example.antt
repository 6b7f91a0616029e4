-- A run to look at: the server loses its table after the first exchange.
use Rattle.std.specs.Prelude.{ℕ, List, [], ◌∷◌, true, false, None, codes, refl}
use Rattle.message_values.specs.declared.health.ComponentHealth.{roll-ComponentHealth}
use Rattle.agent_rules.specs.declared.rules.parts.LocalState.{LocalState}
use Rattle.world_model.specs.Clusters.{ClusterStart, ClusterEvent, At}
use Rattle.world_model.specs.World.{Event, Changed, Sent, Delivered, Answered, ServerRestarted, Restarted, Crashed, Given, no_reactions, Start}

-- an agent that reports no more of itself than its custom capabilities
abbrev pub with_custom : List (List ℕ) → LocalState
with_custom capabilities = record {
  description = record { identifying_attributes = []; non_identifying_attributes = [] };
  capabilities = 1;
  health = roll-ComponentHealth (record { healthy = true; start_time_unix_nano = 0; last_error = []; status = []; status_time_unix_nano = 0; component_health_map = [] });
  effective = record { config_map = None };
  components = record { components = []; hash = [] };
  custom = record { capabilities = capabilities };
}

abbrev pub start : Start
start = record {
  local = with_custom [];
  uid = 0 ∷ 1 ∷ 2 ∷ 3 ∷ 4 ∷ 5 ∷ 6 ∷ 7 ∷ 8 ∷ 9 ∷ 10 ∷ 11 ∷ 12 ∷ 13 ∷ 14 ∷ 15 ∷ [];
  settings = record { endpoint = codes "http://s0"; headers = record { headers = [] }; interval = 0; hash = [] };
  room = 1000;
  asks_uid = false;
  server_of = λ endpoint. endpoint;
  profiles = λ server. record { capabilities = 63; custom = record { capabilities = [] }; connections = 1024 };
  named = refl;
}

-- nothing comes to a reply from the server's caller
abbrev pub nothing : Given
nothing = record { fresh = None; message = None }

abbrev pub lost_table : List Event
lost_table =
    Sent ∷ Delivered 0 nothing ∷ Answered no_reactions
    ∷ ServerRestarted (codes "http://s0") ∷ Changed (with_custom (codes "x" ∷ []))
    ∷ Sent ∷ Delivered 1 nothing ∷ Answered no_reactions
    ∷ Sent ∷ Delivered 2 nothing ∷ Answered no_reactions ∷ []

-- The agent stops in its first report, when the numbers were reserved and nothing was sent, and starts again after the next one was answered.
abbrev pub stopped_report : List Event
stopped_report =
    Crashed Sent 1
    ∷ Sent ∷ Delivered 0 nothing ∷ Answered no_reactions
    ∷ Restarted start.local start.asks_uid ∷ Sent ∷ []

-- Behind the endpoint stand two servers, which get the reports in strict turn: the second one never comes to know the agent.
abbrev pub one_server : List ℕ
one_server = codes "one"

abbrev pub other_server : List ℕ
other_server = codes "other"

abbrev pub start_with_two : ClusterStart
start_with_two = record {
  local = start.local;
  uid = start.uid;
  settings = start.settings;
  room = start.room;
  asks_uid = start.asks_uid;
  behind = λ endpoint server. true;
  profiles = start.profiles;
  named = start.named;
}

abbrev pub in_strict_turn : List ClusterEvent
in_strict_turn =
    At one_server Sent ∷ At one_server (Delivered 0 nothing) ∷ At one_server (Answered no_reactions)
    ∷ At one_server (Changed (with_custom (codes "x" ∷ [])))
    ∷ At other_server Sent ∷ At other_server (Delivered 1 nothing) ∷ At other_server (Answered no_reactions)
    ∷ At one_server Sent ∷ At one_server (Delivered 2 nothing) ∷ At one_server (Answered no_reactions) ∷ []
