-- The one session of a server: what is due for each event is done, and then what follows it.
use Rattle.std.specs.Prelude.{◌≡◌, ◌⊎◌, ◌≤◌, ◌<◌, ℕ, List, [], ◌∷◌, ◌++◌, length, fold, Bool, true, false, MatchBool, Result, Ok, Err}
use Rattle.edge_devices.specs.declared.wires.WireCall.TheVariants.{Gave}
use Rattle.edge_devices.specs.declared.wires.Given.{Given}
use Rattle.server_core.specs.declared.replies.Profile.{Profile}
use Rattle.server_core.specs.History.{Event}
use Rattle.server_core.specs.Table.{table_after}
use Rattle.server_sessions.specs.Reports.{Desk, Host}
use Rattle.server_lines.specs.Sights.{Seen, nothing_seen}
use Rattle.server_sessions.specs.Session.{Does, Moment, SessionState, Standing, Streams, moment_of, seen_at, seen_then, standing_of, state_of}
use Rattle.server_sessions.specs.Wiring.{IsDone, IsFailed, WireView}
use Rattle.server_sessions.specs.declared.serving.ServeEnd.{ServeEnd}
use Rattle.server_sessions.specs.declared.serving.ServeEnd.TheVariants as end
use Rattle.server_sessions.specs.Histories.{event_in, stopped_in}
use Rattle.server_sessions.specs.Connections.{conn_of, ended_at}
use Rattle.server_sessions.specs.Runs.{Gives, IsWanting}

-- What follows an event: the session stands where all that is due for it was done, which ended these connections, and this is kept; then it stands there, and that is kept.
abbrev pub Following : Type 0 → Type 1
Following K = Profile → List ℕ → Moment → K → Moment → K → Type 0

-- Nothing follows.
abbrev pub Nothing : Following Unit
Nothing profile ended end kept last kept' = last ≡ end

-- where a session stands between two events, what is seen of the agents, and what is kept for what follows the events
pub record Place (K : Type 0) : Type 0 where
  pub standing : Standing
  pub seen : Seen
  pub kept : K

-- The wire gave the event, what is due for it was done, and then what follows it.
pub record TurnBy {K : Type 0} (follows : Following K) (host : Host) (e : Given) (old new : Place K) (stop : Bool) : Type 0 where
  pub given : WireView
  pub end : Moment
  pub gave : IsDone (Gave e.at e.event) old.standing.wire given
  pub does : Does host (seen_at e.at old.seen) e.event (moment_of (record (old.standing) { wire = given })) end stop
  pub last : Moment
  pub behind : follows host.profile (ended_at (conn_of e.event) old.standing.streams end.streams) end old.kept last new.kept
  pub stands : new.standing ≡ standing_of last
  pub sees : new.seen ≡ seen_then e.at end old.seen

-- These events were given, one after another, and the run ended at the last one exactly where that was `stop`.
abbrev pub SessionBy : {K : Type 0} → Following K → Host → List Given → Place K → Place K → Bool → Type 0
SessionBy follows host [] old new stop = (new ≡ old) × (stop ≡ false)
SessionBy {K} follows host (e ∷ events) old new stop =
    (mid : Place K) × (stopped : Bool) × TurnBy follows host e old mid stopped
    × MatchBool stopped ((events ≡ []) × (new ≡ mid) × (stop ≡ true)) (SessionBy follows host events mid new stop)

-- ---- runs

-- what is seen of a server that runs: the wire, what events can change, and what is kept for what follows them
pub record Site (K : Type 0) : Type 0 where
  pub wire : WireView
  pub desk : Desk
  pub kept : K

abbrev pub site_of : {K : Type 0} → WireView → Desk → K → Site K
site_of wire desk kept = record { wire = wire; desk = desk; kept = kept }

-- the same, where this is seen of the agents and these connections are known
abbrev pub place_of : {K : Type 0} → Seen → Streams → Site K → Place K
place_of seen streams site = record { standing = record { streams = streams; wire = site.wire; desk = site.desk }; seen = seen; kept = site.kept }

-- So many events were given since nothing was known, what is due was done for each, with what follows it, and the run ended at the last one exactly where that was `stop`.
pub record ServesBy {K : Type 0} (follows : Following K) (host : Host) (n : ℕ) (old new : Site K) (stop : Bool) : Type 0 where
  pub events : List Given
  pub streams : Streams
  pub seen : Seen
  pub number : length events ≡ n
  pub session : SessionBy follows host events (place_of nothing_seen [] old) (place_of seen streams new) stop
  pub given : Gives old.wire new.wire events

-- The wire gave no further event after so many of them.
pub record FailsBy {K : Type 0} (follows : Following K) (host : Host) (n : ℕ) (old new : Site K) : Type 0 where
  pub mid : WireView
  pub served : ServesBy follows host n old (record new { wire = mid }) false
  pub failed : IsFailed mid new.wire

-- Memory was wanting behind an event: the wire gave it, what is due for it was done, and of what follows it this part.
pub record FollowsInPart {K : Type 0} (part : Following K) (host : Host) (old : Place K) (new : Site K) : Type 0 where
  pub next : Given
  pub given : WireView
  pub end : Moment
  pub stop : Bool
  pub gave : IsDone (Gave next.at next.event) old.standing.wire given
  pub does : Does host (seen_at next.at old.seen) next.event (moment_of (record (old.standing) { wire = given })) end stop
  pub last : Moment
  pub behind : part host.profile (ended_at (conn_of next.event) old.standing.streams end.streams) end old.kept last new.kept
  pub wire_is : new.wire ≡ last.scene.wire
  pub desk_is : new.desk ≡ last.scene.sheet.desk

-- Memory was wanting where the session stood: for the next event, where nothing follows yet, or behind it.
abbrev pub WantsBy : {K : Type 0} → Following K → Host → Place K → Site K → Type 0
WantsBy part host old new = (IsWanting host old.seen old.standing new.wire new.desk × (new.kept ≡ old.kept)) ⊎ FollowsInPart part host old new

-- Memory was wanting after so many events.
pub record WantsAfterBy {K : Type 0} (follows part : Following K) (host : Host) (n : ℕ) (old new : Site K) : Type 0 where
  pub mid : Site K
  pub served : ServesBy follows host n old mid false
  pub wanting : WantsBy part host (place_of served.seen served.streams mid) new

-- How a run of so many events at most ends: by `stop`; or all were given, and none was `stop`; or the wire failed where a next one was asked for; or memory was wanting there, for
-- that event or behind it.
abbrev pub EndsBy : {K : Type 0} → Following K → Following K → Host → ℕ → Site K → Site K → Result ℕ ServeEnd → Type 0
EndsBy follows part host turns old new (Ok n) = (n ≤ turns) × ServesBy follows host n old new true
EndsBy follows part host turns old new (Err end.TurnsSpent) = ServesBy follows host turns old new false
EndsBy follows part host turns old new (Err end.WireFault) = (n : ℕ) × (n < turns) × FailsBy follows host n old new
EndsBy follows part host turns old new (Err end.NoMemory) = (n : ℕ) × (n < turns) × WantsAfterBy follows part host n old new

-- ---- a server behind whose events nothing follows

abbrev pub alone : SessionState → Place Unit
alone state = record { standing = state.standing; seen = state.seen; kept = tt }

-- the same of any session
abbrev pub state_in : {K : Type 0} → Place K → SessionState
state_in place = state_of place.seen place.standing

-- ---- what reaches the server

-- the offers that what follows an event makes
abbrev pub Offering : Type 0 → Type 0
Offering K = Moment → K → List Event

-- What follows an event changes the table by these offers and by nothing else.
abbrev pub OffersBy : {K : Type 0} → Following K → Offering K → Type 0
OffersBy {K} follows offers = (profile : Profile) (ended : List ℕ) (end : Moment) (kept : K) (last : Moment) (kept' : K) → follows profile ended end kept last kept'
    → last.scene.sheet.desk.table ≡ fold table_after end.scene.sheet.desk.table (offers end kept)

-- what reaches a server in a session: for each event its reports, offers and orders, and then the offers that follow it
abbrev pub history_by : {K : Type 0} (follows : Following K) → Offering K → (host : Host) (events : List Given) (old new : Place K) (stop : Bool) → SessionBy follows host events old new stop → List Event
history_by follows offers host [] old new stop p = []
history_by follows offers host (e ∷ events) old new stop p =
    (event_in host (seen_at e.at old.seen) e.event (moment_of (record (old.standing) { wire = p.2.given })) p.2.end p.1 p.2.does ++ offers p.2.end old.kept)
    ++ stopped_in host _ _ (history_by follows offers host events p.0 new stop) p.1 p.3
