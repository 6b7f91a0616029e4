-- How contracts see the fields of an agent, and what the fields keep.
use Rattle.std.specs.Prelude.{◌≤◌, IsTrue}
use Rattle.std.specs.Option.{ForSome}
use Rattle.edge_devices.specs.Endpoints.{is_endpoint}
use Rattle.agent_rules.specs.Right.{is_right}
use Rattle.agent_state.specs.declared.agent.Agent.TheInside.{Inside}
use Rattle.agent_state.specs.View.{AgentView}

abbrev pub view_of : Inside → AgentView
view_of a = record {
  half = record {
    local = a.local;
    saved = a.saved;
    is_kept = a.is_kept;
    room = a.store.layout.room;
    asks_uid = a.asks_uid;
    next = a.next;
    awaits = a.awaits;
    last = a.last;
    detailed = a.detailed;
    linked = a.linked;
    wants_details = a.wants_details;
    trial = a.trial;
    proved = a.proved;
    abandoned = a.abandoned;
    message = a.message;
  };
  store = a.store;
}

-- the numbers below the next are reserved, what is in use may be kept, and the settings under trial too
pub record IsSoundAgent (a : Inside) : Type 0 where
  pub reserved : a.next ≤ a.saved.limit
  pub right : IsTrue (is_right a.saved)
  pub tried : ForSome a.trial (λ tried. IsTrue (is_endpoint tried.endpoint))
