-- Sessions in which offers are pushed: what a session of `server_sessions` does for an event, and then the messages to the agents of the operator's lines
-- that were answered by `ok`, each on the connection that last had a report of its agent.
use Rattle.std.specs.Prelude.{◌≡◌, ◌⊎◌, ℕ, List, [], ◌∷◌, ◌++◌, length, take, filter, not, Bool, true, false, Option, MatchBool, MatchOption}
use Rattle.std.specs.Option.{option_and_then, option_map}
use Rattle.message_values.specs.declared.reply.ServerToAgent.{ServerToAgent}
use Rattle.edge_devices.specs.declared.wires.WireCall.TheVariants.{Gave, Sent}
use Rattle.edge_devices.specs.declared.wires.Given.{Given}
use Rattle.edge_devices.specs.declared.wires.WireEvent.{WireEvent}
use Rattle.server_core.specs.declared.replies.Profile.{Profile}
use Rattle.server_core.specs.History.{is_among}
use Rattle.server_core.specs.Table.{pushed_from}
use Rattle.message_replies.specs.Canonical.{canonical_reply}
use Rattle.message_replies.specs.Header.{wrapped}
use Rattle.server_sessions.specs.Reports.{Desk, Host}
use Rattle.server_lines.specs.Sights.{Seen, nothing_seen}
use Rattle.server_sessions.specs.Session.{Does, Moment, Standing, Streams, moment_of, seen_at, seen_then, standing_of, without_stream}
use Rattle.server_sessions.specs.Wiring.{IsDone, IsFailed, IsLost, WireView}
use Rattle.server_sessions.specs.Connections.{conn_of, ended_at}
use Rattle.server_sessions.specs.Runs.{Gives, IsWanting}
use Rattle.server_sessions.specs.Sessions.{Following, Place, place_of, site_of}
use Rattle.server_deliveries.specs.Routes.{Reach, no_routes, route_to, routes_ended, routes_noted, routes_without}

-- where a session stands while pushes go out, and which connections reach which agents
pub record PushStanding : Type 0 where
  pub session : Standing
  pub routes : Reach

abbrev pub pushing_of : Streams → WireView → Desk → Reach → PushStanding
pushing_of streams wire desk routes = record { session = record { streams = streams; wire = wire; desk = desk }; routes = routes }

-- what goes out to an agent, and on which connection
pub record Push : Type 0 where
  pub conn : ℕ
  pub payload : List ℕ

abbrev pub push_on : ℕ → ServerToAgent → Push
push_on conn message = record { conn = conn; payload = wrapped (canonical_reply message) }

-- none, where no connection reaches the agent, or there is nothing to push to it
abbrev pub push_to : Profile → PushStanding → List ℕ → Option Push
push_to profile s uid =
    option_and_then (λ conn. option_map (push_on conn) (pushed_from profile s.session.desk.table uid)) (route_to s.routes uid)

-- The payload is sent; where that is lost, its connection is closed, which is no event.
abbrev pub SendsPush : Push → PushStanding → PushStanding → Type 0
SendsPush push old new =
    (IsDone (Sent push.conn push.payload) old.session.wire new.session.wire
    × (new ≡ pushing_of old.session.streams new.session.wire old.session.desk old.routes))
    ⊎ (IsLost push.conn old.session.wire new.session.wire
    × (new ≡ pushing_of (without_stream old.session.streams push.conn) new.session.wire old.session.desk (routes_without push.conn old.routes)))

abbrev pub PushesTo : Profile → List ℕ → PushStanding → PushStanding → Type 0
PushesTo profile uid old new = MatchOption (push_to profile old uid) (new ≡ old) (λ push. SendsPush push old new)

-- to each of these agents, in order
abbrev pub PushesToAll : Profile → List (List ℕ) → PushStanding → PushStanding → Type 0
PushesToAll profile [] old new = new ≡ old
PushesToAll profile (uid ∷ uids) old new = (mid : PushStanding) × PushesTo profile uid old mid × PushesToAll profile uids mid new

-- which connections reach which agents behind an event
abbrev pub routes_after : WireEvent → Streams → Moment → Reach → Reach
routes_after event streams end routes = routes_ended (ended_at (conn_of event) streams end.streams) (routes_noted end.scene.sheet.handled routes)

-- The event's reports and the connections that it ended are noted in the routes, and the messages go out to these agents, in order.
abbrev pub PushesOver : List (List ℕ) → Following Reach
PushesOver uids profile ended end routes last routes' =
    PushesToAll profile uids (record { session = standing_of end; routes = routes_ended ended (routes_noted end.scene.sheet.handled routes) }) (record { session = standing_of last; routes = routes' })
    × (last.scene.sheet ≡ end.scene.sheet)

-- To some first ones of these agents they went out, and nothing is said of the routes.
abbrev pub PushesOverInPart : List (List ℕ) → Following Reach
PushesOverInPart uids profile ended end routes last routes' = (count : ℕ) × (reach : Reach) × PushesOver (take count uids) profile ended end routes last reach

-- What follows an event where offers are pushed: they go out to the agents of its orders.
abbrev pub Pushes : Following Reach
Pushes profile ended end routes last routes' = PushesOver end.scene.sheet.ordered profile ended end routes last routes'

abbrev pub PushesInPart : Following Reach
PushesInPart profile ended end routes last routes' = PushesOverInPart end.scene.sheet.ordered profile ended end routes last routes'

-- those of these agents that aren't among the others
abbrev pub but_for : List (List ℕ) → List (List ℕ) → List (List ℕ)
but_for others uids = filter (λ uid. not (is_among others uid)) uids

-- Whom pushes go to where agents were newly offered to behind an event: the agents of the orders, as often as they stand there, and then those of the new offers that aren't among them.
abbrev pub pushed_to : List (List ℕ) → List (List ℕ) → List (List ℕ)
pushed_to ordered newly = ordered ++ but_for ordered newly

-- where a session with pushes stands between two events
abbrev pub pushing_at : Place Reach → PushStanding
pushing_at place = record { session = place.standing; routes = place.kept }

-- The wire gave the event, what is due for it was done, and then the pushes that it asks for went out.
pub record PushTurn (host : Host) (e : Given) (old new : Place Reach) (stop : Bool) : Type 0 where
  pub given : WireView
  pub end : Moment
  pub gave : IsDone (Gave e.at e.event) old.standing.wire given
  pub does : Does host (seen_at e.at old.seen) e.event (moment_of (record (old.standing) { wire = given })) end stop
  pub pushes : PushesToAll host.profile end.scene.sheet.ordered
      (record { session = standing_of end; routes = routes_after e.event old.standing.streams end old.kept }) (pushing_at new)
  pub sees : new.seen ≡ seen_then e.at end old.seen

-- These events were given, one after another, and the run ended at the last one exactly where that was `stop`.
abbrev pub PushingSession : Host → List Given → Place Reach → Place Reach → Bool → Type 0
PushingSession host [] old new stop = (new ≡ old) × (stop ≡ false)
PushingSession host (e ∷ events) old new stop =
    (mid : Place Reach) × (stopped : Bool) × PushTurn host e old mid stopped
    × MatchBool stopped ((events ≡ []) × (new ≡ mid) × (stop ≡ true)) (PushingSession host events mid new stop)

-- where a run begins: no connection is known
abbrev pub beginning : WireView → Desk → Place Reach
beginning wire desk = place_of nothing_seen [] (site_of wire desk no_routes)

-- So many events were given since nothing was known, what is due was done for each, and the run ended at the last one exactly where that was `stop`.
pub record PushesEvents (host : Host) (n : ℕ) (old new : WireView) (desk desk' : Desk) (stop : Bool) : Type 0 where
  pub events : List Given
  pub streams : Streams
  pub seen : Seen
  pub routes : Reach
  pub number : length events ≡ n
  pub session : PushingSession host events (beginning old desk) (place_of seen streams (site_of new desk' routes)) stop
  pub given : Gives old new events

-- The wire gave no further event after so many of them.
pub record PushingFails (host : Host) (n : ℕ) (old new : WireView) (desk desk' : Desk) : Type 0 where
  pub mid : WireView
  pub served : PushesEvents host n old mid desk desk' false
  pub failed : IsFailed mid new

-- Memory was wanting behind an event: the wire gave it, what is due for it was done, and some first ones of its pushes went out.
pub record PushesSome (host : Host) (old : Place Reach) (wire : WireView) (desk : Desk) : Type 0 where
  pub next : Given
  pub given : WireView
  pub end : Moment
  pub stop : Bool
  pub gave : IsDone (Gave next.at next.event) old.standing.wire given
  pub does : Does host (seen_at next.at old.seen) next.event (moment_of (record (old.standing) { wire = given })) end stop
  pub count : ℕ
  pub last : PushStanding
  pub pushes : PushesToAll host.profile (take count end.scene.sheet.ordered)
      (record { session = standing_of end; routes = routes_after next.event old.standing.streams end old.kept }) last
  pub wire_is : wire ≡ last.session.wire
  pub desk_is : desk ≡ last.session.desk

-- Memory was wanting where the session stood: for the next event, as without pushes, or behind it.
abbrev pub WantsToPush : Host → Place Reach → WireView → Desk → Type 0
WantsToPush host s wire desk = IsWanting host s.seen s.standing wire desk ⊎ PushesSome host s wire desk

-- Memory was wanting after so many events.
pub record PushingWants (host : Host) (n : ℕ) (old new : WireView) (desk desk' : Desk) : Type 0 where
  pub mid : WireView
  pub kept : Desk
  pub served : PushesEvents host n old mid desk kept false
  pub wanting : WantsToPush host (place_of served.seen served.streams (site_of mid kept served.routes)) new desk'
