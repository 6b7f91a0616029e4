-- How the routes are kept.
use Rattle.std.specs.Prelude.{◌≡◌, ℕ, List, true, Vec}
use Rattle.std.specs.Map.{lookup}
use Rattle.std.specs.BTreeMap.{BTreeMap, is_at}
use Rattle.std.specs.Ordering.{nat_cmp}
use Rattle.std.specs.Cmp.Lexicographic.{slice_cmp}
use Rattle.std.specs.declared.alloc.Global.{Global}
use Rattle.server_deliveries.specs.declared.routes.Routes.TheInside.{Inside}
use Rattle.server_core.specs.History.{is_among}
use Rattle.server_deliveries.specs.Lists.{AreFilled, AreOwned, items_in, conns_at, agents_at, has_conn}
use Rattle.server_deliveries.specs.Routes.{Reach}

-- the connections of each agent that has some, the latest first
abbrev pub Entries : Type 0
Entries = List (List ℕ × Vec ℕ Global)

abbrev pub reach_of : Entries → Reach
reach_of entries = λ uid. items_in (lookup (is_at (slice_cmp nat_cmp uid)) entries)

abbrev pub entries_in : Inside → Entries
entries_in a = a.conns.entries

-- the lists of connections under agents, and the lists of agents under connections
abbrev pub Conns : Type 0
Conns = BTreeMap (List ℕ) (Vec ℕ Global)

abbrev pub Agents : Type 0
Agents = BTreeMap ℕ (Vec (List ℕ) Global)

-- A connection that reaches an agent has the agent among its own.
pub record AreTied (conns : Conns) (agents : Agents) : Type 0 where
  pub tied : (uid : List ℕ) (conn : ℕ) → has_conn (conns_at conns uid) conn ≡ true → is_among (agents_at agents conn) uid ≡ true

-- The lists are tied, and none of them is empty.
pub record AreKept (conns : Conns) (agents : Agents) : Type 0 where
  pub tied : AreTied conns agents
  pub filled : AreFilled conns
  pub owned : AreOwned agents
