-- What a loop that pushes keeps of a session, and what its turns do.
use Rattle.std.specs.Prelude.{◌≡◌, ℕ, List, take, true, IsSome}
use Rattle.edge_devices.specs.Clocks.{EntropyState}
use Rattle.edge_devices.specs.declared.wires.WireEvent.{WireEvent}
use Rattle.server_core.specs.declared.replies.Profile.{Profile}
use Rattle.server_core.specs.Table.{Table}
use Rattle.server_waves.specs.Register.{Rolling}
use Rattle.server_sessions.specs.declared.answers.stepped.Stepped.{Stepped}
use Rattle.server_sessions.specs.Reports.{Desk, desk_of}
use Rattle.server_sessions.specs.Session.{Streams}
use Rattle.server_sessions.specs.Wiring.{WireView}
use Rattle.server_sessions.specs.Connections.{AreHeard, KeepsKnown, Known, StandsFor, known_at}
use Rattle.server_deliveries.specs.Lists.{has_conn}
use Rattle.server_deliveries.specs.Pushing.{PushStanding, PushesToAll, pushing_of}
use Rattle.server_deliveries.specs.Routes.{Reach}

-- The loop knows each connection that reaches an agent.
abbrev pub AreKnown : Known → Reach → Type 0
AreKnown known routes = (uid : List ℕ) (conn : ℕ) → has_conn (routes uid) conn ≡ true → IsSome (known_at known conn)

-- Before the event the loop knew each connection that reaches an agent, and the one that the event's reports came on; what it knew it knows still, or it ended.
abbrev pub WereKnown : Known → Stepped → Reach → Type 0
WereKnown known stepped routes =
    (before : Known) × (event : WireEvent) × AreKnown before routes × AreHeard before event stepped.handled × KeepsKnown before known stepped.ended

-- where a loop and its routes stand, with the wire
pub record Post : Type 0 where
  pub known : Known
  pub routes : Reach
  pub wire : WireView

abbrev pub post_of : Known → Reach → WireView → Post
post_of known routes wire = record { known = known; routes = routes; wire = wire }

-- This is done between two standings, from where the loop stands for these streams to where it stands for those after it.
abbrev pub Leads : (PushStanding → PushStanding → Type 0) → Desk → Post → Post → Type 0
Leads does desk old new =
    (streams : Streams)
    → (streams' : Streams) × does (pushing_of streams old.wire desk old.routes) (pushing_of streams' new.wire desk new.routes)
    × (StandsFor old.known streams → StandsFor new.known streams')

-- The pushes to some first ones of these agents went out.
abbrev pub PushesFirst : Profile → List (List ℕ) → Table → Post → Post → Type 0
PushesFirst profile uids table old new = (count : ℕ) × ((entropy : EntropyState) (rollouts : List Rolling) → Leads (PushesToAll profile (take count uids)) (desk_of entropy table rollouts) old new)
