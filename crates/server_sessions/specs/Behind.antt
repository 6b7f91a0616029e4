-- What a loop tells what follows an event, and what that leads to.
use Rattle.std.specs.Prelude.{◌≡◌, ◌⊎◌, ℕ, ◌+◌, ◌≤◌, List, [], ◌∷◌, length, cond, Bool, true, false, None, Result, Ok, Err}
use Rattle.std.specs.List.{list_any}
use Rattle.std.specs.Str.{bytes_eq}
use Rattle.std.specs.Ordering.{nat_cmp}
use Rattle.std.specs.BTreeMap.{is_at}
use Rattle.edge_devices.specs.Clocks.{EntropyState}
use Rattle.edge_devices.specs.declared.wires.Given.{Given}
use Rattle.edge_devices.specs.declared.wires.WireEvent.{WireEvent}
use Rattle.edge_devices.specs.declared.wires.WireEvent.TheVariants.{Opened, Piece, Closed}
use Rattle.server_core.specs.declared.replies.Profile.{Profile}
use Rattle.server_core.specs.Table.{Table, find_record}
use Rattle.server_waves.specs.Points.{OfferNoMore}
use Rattle.server_waves.specs.Register.{Rolling}
use Rattle.server_sessions.specs.declared.answers.stepped.Handled.{Handled}
use Rattle.server_sessions.specs.declared.answers.stepped.Stepped.{Stepped}
use Rattle.server_sessions.specs.Reports.{Host}
use Rattle.server_lines.specs.Sights.{Seen, nothing_seen}
use Rattle.server_sessions.specs.Session.{Moment, Streams}
use Rattle.server_sessions.specs.Wiring.{IsFailed, WireView}
use Rattle.server_sessions.specs.declared.serving.ServeEnd.{ServeEnd}
use Rattle.server_sessions.specs.declared.serving.ServeEnd.TheVariants as end
use Rattle.server_sessions.specs.Connections.{AreHeard, KeepsKnown, Known, StandsFor, scene_at}
use Rattle.server_sessions.specs.Runs.{Gives}
use Rattle.server_sessions.specs.Sessions.{Following, SessionBy, Site, TurnBy, WantsBy, place_of}

-- bytes came on a connection
abbrev pub is_piece : WireEvent → Bool
is_piece (Opened conn kind) = false
is_piece (Piece conn bytes) = true
is_piece (Closed conn) = false

-- A report of the agent is one of these.
abbrev pub is_heard : List Handled → List ℕ → Bool
is_heard handled uid = list_any (λ h. bytes_eq h.uid uid) handled

-- how many entries have this key
abbrev pub entries_of : {X : Type 0} → ℕ → List (ℕ × X) → ℕ
entries_of key [] = 0
entries_of key (e ∷ es) = cond (is_at (nat_cmp key) e.0) 1 0 + entries_of key es

-- Each key has one entry at most.
abbrev pub IsKeyed : {X : Type 0} → List (ℕ × X) → Type 0
IsKeyed es = (key : ℕ) → entries_of key es ≤ 1

-- The loop stands for some streams, of which no two have one number.
pub record Stands (known : Known) : Type 0 where
  pub streams : Streams
  pub stands : StandsFor known streams
  pub keyed : IsKeyed streams

-- What is known of the agent is as before, or it was forgotten.
abbrev pub Stays : List ℕ → Table → Table → Type 0
Stays uid old new = (find_record new.records uid ≡ find_record old.records uid) ⊎ (find_record new.records uid ≡ None)

-- So it is with each other agent than those of these reports.
abbrev pub OthersStay : List Handled → Table → Table → Type 0
OthersStay handled old new = (uid : List ℕ) → is_heard handled uid ≡ false → Stays uid old new

-- What is due for an event was done, before which this fitted what the loop knew, the table and the rollouts. The reports that were answered without error came on its
-- connection, which was known; what was known is known still or ended; other agents are known as before or were forgotten, unless bytes came on a connection that ended; and
-- by rollouts no offer was made.
pub record IsBehind (fits : Known → Table → List Rolling → Type 0) (piece : Bool) (known : Known) (table : Table) (rollouts : List Rolling) (stepped : Stepped) : Type 0 where
  pub event : WireEvent
  pub before : Known
  pub first : Table
  pub rolling : List Rolling
  pub fitted : fits before first rolling
  pub heard : AreHeard before event stepped.handled
  pub keeps : KeepsKnown before known stepped.ended
  pub others : (piece ≡ false) ⊎ (stepped.ended ≡ []) → OthersStay stepped.handled first table
  pub offers : OfferNoMore rolling rollouts

-- where a loop stands behind an event, and what is kept for what follows it
pub record Post (K : Type 0) : Type 0 where
  pub known : Known
  pub wire : WireView
  pub table : Table
  pub rollouts : List Rolling
  pub stepped : Stepped
  pub kept : K

abbrev pub post_of : {K : Type 0} → Known → WireView → Table → List Rolling → Stepped → K → Post K
post_of known wire table rollouts stepped kept = record { known = known; wire = wire; table = table; rollouts = rollouts; stepped = stepped; kept = kept }

abbrev pub moment_at : {K : Type 0} → Streams → EntropyState → Post K → Moment
moment_at streams entropy post = record { streams = streams; scene = scene_at post.wire entropy post.table post.rollouts post.stepped }

-- What follows leads from where the loop stands for some streams to where it stands for others. It draws no random bytes.
abbrev pub LeadsBy : {K : Type 0} → Following K → Profile → Post K → Post K → Type 0
LeadsBy follows profile old new =
    (entropy : EntropyState) (streams : Streams) →
    (streams' : Streams)
    × follows profile old.stepped.ended (moment_at streams entropy old) old.kept (moment_at streams' entropy new) new.kept
    × (StandsFor old.known streams → StandsFor new.known streams')
    × (IsKeyed streams → IsKeyed streams')

-- what a loop keeps between two events: what it knows of the connections, and what it has seen of the agents
pub record Looking : Type 0 where
  pub known : Known
  pub seen : Seen

abbrev pub looking : Known → Seen → Looking
looking known seen = record { known = known; seen = seen }

-- The wire gave an event, what is due for it was done, and then what follows it, from where the loop stands for these streams to where it stands for those after it.
abbrev pub TurnsBy : {K : Type 0} → Following K → Host → Given → Looking → Looking → Site K → Site K → Bool → Type 0
TurnsBy follows host e looks looks' old new stop =
    (streams : Streams) → StandsFor looks.known streams →
    (streams' : Streams)
    × TurnBy follows host e (place_of looks.seen streams old) (place_of looks'.seen streams' new) stop
    × (stop ≡ false → StandsFor looks'.known streams')
    × (IsKeyed streams → IsKeyed streams')
    × Gives old.wire new.wire (e ∷ [])

-- How a turn ends: so; or the wire failed, and nothing else was done; or memory was wanting.
abbrev pub TurnEndsBy : {K : Type 0} → Following K → Following K → Host → Looking → Looking → Site K → Site K → Result Bool ServeEnd → Type 0
TurnEndsBy follows part host looks looks' old new (Ok stop) = (e : Given) × TurnsBy follows host e looks looks' old new stop
TurnEndsBy follows part host looks looks' old new (Err end.TurnsSpent) = ⊥
TurnEndsBy follows part host looks looks' old new (Err end.WireFault) = IsFailed old.wire new.wire × (new ≡ record old { wire = new.wire })
TurnEndsBy follows part host looks looks' old new (Err end.NoMemory) = (streams : Streams) → StandsFor looks.known streams → WantsBy part host (place_of looks.seen streams old) new

-- So many events were given since nothing was known, none was `stop`, and the loop stands for what came.
pub record HasServedBy {K : Type 0} (follows : Following K) (host : Host) (n : ℕ) (looks : Looking) (old new : Site K) : Type 0 where
  pub events : List Given
  pub streams : Streams
  pub number : length events ≡ n
  pub session : SessionBy follows host events (place_of nothing_seen [] old) (place_of looks.seen streams new) false
  pub given : Gives old.wire new.wire events
  pub stands : StandsFor looks.known streams
  pub keyed : IsKeyed streams
