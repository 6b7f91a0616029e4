-- The sessions of connections: what a server does on a wire for the events that the wire gave.
use Rattle.std.specs.Prelude.{◌≡◌, ℕ, List, [], ◌∷◌, ◌++◌, fold, Bool, true, false, not, ◌&&◌, nat_le, if◌then◌else◌, length, Option, is_some, MatchBool, MatchOption}
use Rattle.std.specs.Ordering.{nat_cmp}
use Rattle.std.specs.Map.{lookup, remove_entry, set_value}
use Rattle.std.specs.BTreeMap.{insert_entry, is_at}
use Rattle.edge_devices.specs.declared.wires.Kind.{Kind}
use Rattle.edge_devices.specs.declared.wires.Given.{Given}
use Rattle.edge_devices.specs.declared.wires.WireEvent.{WireEvent}
use Rattle.edge_devices.specs.declared.wires.WireEvent.TheVariants.{Opened, Piece, Closed}
use Rattle.edge_devices.specs.declared.wires.WireCall.TheVariants.{Gave}
use Rattle.edge_devices.specs.declared.wires.WireCall.TheVariants as told
use Rattle.server_core.specs.declared.rows.Record.{Record}
use Rattle.server_lines.specs.Sights.{Seen, held_alone, numbers_in, sight_of, with_mark}
use Rattle.server_sessions.specs.declared.answers.stepped.Handled.{Handled}
use Rattle.server_sessions.specs.Streams.{Stream, Item, Brings}
use Rattle.server_sessions.specs.Reports.{Host, Desk}
use Rattle.server_sessions.specs.Answers.{Sheet, Answer, Gets, GoesOut}
use Rattle.server_sessions.specs.Wiring.{WireView, IsDone}

-- the wire, and what was done of an event so far
pub record Scene : Type 0 where
  pub wire : WireView
  pub sheet : Sheet

abbrev pub scene_of : WireView → Sheet → Scene
scene_of wire sheet = record { wire = wire; sheet = sheet }

-- whether the connection stays, and whether the run ends
pub record Ending : Type 0 where
  pub stays : Bool
  pub stop : Bool

-- One item is answered, and its answer goes out.
pub record Serves (host : Host) (kind : Kind) (conn : ℕ) (item : Item) (old new : Scene) (end : Ending) : Type 0 where
  pub answer : Answer
  pub gets : Gets host kind conn item old.sheet new.sheet answer
  pub goes_out : GoesOut conn answer.bytes answer.closes old.wire new.wire end.stays
  pub stop : end.stop ≡ answer.stop

-- The items are served in order, until the connection doesn't stay or the run ends. What is left then isn't handled.
abbrev pub ServesAll : Host → Kind → ℕ → List Item → Scene → Scene → Ending → Type 0
ServesAll host kind conn [] old new end = (new ≡ old) × (end ≡ record { stays = true; stop = false })
ServesAll host kind conn (item ∷ items) old new end =
    (mid : Scene) × (first : Ending) × Serves host kind conn item old mid first
    × MatchBool (first.stays && not first.stop) (ServesAll host kind conn items mid new end) ((new ≡ mid) × (end ≡ first))

-- the known connections in the order of their numbers, each with all that came on it
abbrev pub Streams : Type 0
Streams = List (ℕ × Stream)

-- the known connection of that number
abbrev pub stream_at : Streams → ℕ → Option Stream
stream_at streams conn = lookup (is_at (nat_cmp conn)) streams

abbrev pub with_stream : Streams → ℕ → Stream → Streams
with_stream streams conn stream = insert_entry nat_cmp streams conn stream

abbrev pub without_stream : Streams → ℕ → Streams
without_stream streams conn = remove_entry (is_at (nat_cmp conn)) streams

-- where a session stands: its connections, and the scene of the event
pub record Moment : Type 0 where
  pub streams : Streams
  pub scene : Scene

-- the bytes came on the connection, which is known further where it stays
abbrev pub after_piece : Streams → ℕ → Stream → List ℕ → Bool → Streams
after_piece streams conn stream bytes stays =
    if stays
    then set_value (is_at (nat_cmp conn)) streams (record stream { bytes = stream.bytes ++ bytes })
    else without_stream streams conn

-- A connection that is opened is known from then on. Where as many are known as the limit says it is closed at once, and one that is known is left
-- as it is.
abbrev pub Opens : ℕ → ℕ → Kind → Streams → Streams → WireView → WireView → Type 0
Opens limit conn kind old new wire wire' =
    MatchBool (is_some (stream_at old conn))
    ((new ≡ old) × (wire' ≡ wire))
    (MatchBool (nat_le limit (length old))
    ((new ≡ old) × IsDone (told.Closed conn) wire wire')
    ((new ≡ with_stream old conn (record { kind = kind; bytes = [] })) × (wire' ≡ wire)))

-- What is done for an event, and whether the run ends. The server's profile says how many connections are known at most. An event of an unknown
-- connection does nothing. Lines are asked over what is seen of the agents and the connections that are known when the event comes.
abbrev pub Does : Host → Seen → WireEvent → Moment → Moment → Bool → Type 0
Does host seen (Opened conn kind) old new stop =
    Opens host.profile.connections conn kind old.streams new.streams old.scene.wire new.scene.wire × (new.scene ≡ record old.scene { wire = new.scene.wire }) × (stop ≡ false)
Does host seen (Closed conn) old new stop = (new ≡ record old { streams = without_stream old.streams conn }) × (stop ≡ false)
Does host seen (Piece conn bytes) old new stop =
    MatchOption (stream_at old.streams conn)
    ((new ≡ old) × (stop ≡ false))
    (λ stream. (items : List Item) × (end : Ending)
    × Brings (sight_of seen (numbers_in old.streams)) stream bytes items
    × ServesAll host stream.kind conn items old.scene new.scene end
    × (new.streams ≡ after_piece old.streams conn stream bytes end.stays)
    × (stop ≡ end.stop))

-- where the session stands between two events
pub record Standing : Type 0 where
  pub streams : Streams
  pub wire : WireView
  pub desk : Desk

-- an event begins where the session stands
abbrev pub moment_of : Standing → Moment
moment_of s = record { streams = s.streams; scene = record { wire = s.wire; sheet = record { desk = s.desk; handled = []; ordered = []; entries = [] } } }

abbrev pub standing_of : Moment → Standing
standing_of m = record { streams = m.streams; wire = m.scene.wire; desk = m.scene.sheet.desk }

-- what is seen of the agents when an event of this second comes
abbrev pub seen_at : ℕ → Seen → Seen
seen_at second seen = record seen { second = second }

-- the report is marked, if it was taken
abbrev pub marked : Seen → Handled → Seen
marked seen h = if h.taken then with_mark h.uid h.conn h.ws seen else seen

-- What is seen of the agents behind an event that left these records: its reports that were taken are marked, in order.
abbrev pub seen_behind : List Record → List Handled → Seen → Seen
seen_behind records handled seen = held_alone records (fold marked seen handled)

-- what is seen of the agents behind an event of this second, whose end is this
abbrev pub seen_then : ℕ → Moment → Seen → Seen
seen_then second end seen = seen_behind end.scene.sheet.desk.table.records end.scene.sheet.handled (seen_at second seen)

-- where a session stands between two events, and what is seen of the agents
pub record SessionState : Type 0 where
  pub standing : Standing
  pub seen : Seen

abbrev pub state_of : Seen → Standing → SessionState
state_of seen standing = record { standing = standing; seen = seen }

-- The wire gave the event at its second, and then what is due for it was done.
abbrev pub Turn : Host → Given → SessionState → SessionState → Bool → Type 0
Turn host e old new stop =
    (given : WireView) × (end : Moment)
    × IsDone (Gave e.at e.event) old.standing.wire given
    × Does host (seen_at e.at old.seen) e.event (moment_of (record (old.standing) { wire = given })) end stop
    × (new ≡ state_of (seen_then e.at end old.seen) (standing_of end))

-- These events were given, one after another, and the run ended at the last one exactly where that was `stop`.
abbrev pub ServerSession : Host → List Given → SessionState → SessionState → Bool → Type 0
ServerSession host [] old new stop = (new ≡ old) × (stop ≡ false)
ServerSession host (e ∷ events) old new stop =
    (mid : SessionState) × (stopped : Bool) × Turn host e old mid stopped
    × MatchBool stopped ((events ≡ []) × (new ≡ mid) × (stop ≡ true)) (ServerSession host events mid new stop)
