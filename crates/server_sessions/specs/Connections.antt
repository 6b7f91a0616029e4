-- What is known of the connections of a session, and what an event makes of it.
use Rattle.std.specs.Prelude.{◌≡◌, ◌≢◌, ℕ, ◌⊎◌, ◌==◌, List, [], ◌∷◌, ◌++◌, map, Bool, true, false, not, ◌&&◌, if◌then◌else◌, Option, None, is_some, IsSome, IsTrue, MatchOption, All, ⊤}
use Rattle.std.specs.List.{flat_map, list_any}
use Rattle.std.specs.Ordering.{nat_cmp}
use Rattle.std.specs.Map.{lookup, remove_entry, set_value}
use Rattle.std.specs.BTreeMap.{is_at}
use Rattle.edge_devices.specs.declared.wires.Kind.{Kind}
use Rattle.edge_devices.specs.declared.wires.Kind.TheVariants as kind
use Rattle.edge_devices.specs.declared.wires.WireCall.{WireCall}
use Rattle.edge_devices.specs.declared.wires.WireEvent.{WireEvent}
use Rattle.edge_devices.specs.declared.wires.WireEvent.TheVariants as event
use Rattle.edge_devices.specs.Clocks.{EntropyState}
use Rattle.edge_devices.specs.Wires.{IsOpen}
use Rattle.edge_http.specs.declared.messages.HttpMessage.{HttpMessage}
use Rattle.edge_http.specs.declared.messages.Part.{Part}
use Rattle.edge_http.specs.Joined.{with_part}
use Rattle.edge_http.specs.Readers.{ReaderState}
use Rattle.server_core.specs.declared.replies.Profile.{Profile}
use Rattle.server_core.specs.Table.{Table}
use Rattle.server_lines.specs.Sights.{Seen, Sight, numbers_in, sight_of}
use Rattle.server_waves.specs.Register.{Rolling}
use Rattle.server_sessions.specs.declared.answers.stepped.Handled.{Handled}
use Rattle.server_sessions.specs.declared.answers.stepped.Stepped.{Stepped}
use Rattle.server_sessions.specs.Answers.{sheet_of}
use Rattle.server_sessions.specs.Reports.{Host, desk_of, silent}
use Rattle.server_sessions.specs.Session.{Scene, scene_of, Streams, Ending, Does, Opens, Serves, ServesAll, stream_at}
use Rattle.server_sessions.specs.Streams.{Stream, Item, Request, Unread, AreLines, Brings, IsOneLine, ended_line, line_item, rest_items}
use Rattle.server_sessions.specs.Wiring.{WireView}
use Rattle.server_sessions.specs.declared.connection.Connection.{Connection}
use Rattle.server_sessions.specs.declared.connection.Connection.TheVariants.{Http, Ws, Operator}
use Rattle.server_sessions.specs.declared.bodies.Progress.{Progress}
use Rattle.server_sessions.specs.declared.bodies.RequestReader.{RequestReader}
use Rattle.server_sessions.specs.UnderWay.{HasReadAll, HasTaken, IsUnderWay, behind, holding}

-- the known connections in the order of their numbers, each with what is kept of it
abbrev pub Known : Type 0
Known = List (ℕ × Connection)

-- What is kept of a connection stands for all that came on it.
abbrev pub IsFor : Connection → Stream → Type 0
IsFor (Http reader) stream = (stream.kind ≡ kind.Http) × HasReadAll reader stream.bytes
IsFor Ws stream = stream.kind ≡ kind.Ws
IsFor (Operator part) stream = (stream.kind ≡ kind.Operator) × ((lines : List (List ℕ)) × AreLines stream.bytes lines part)

-- Both have the same keys in the same order, with values that are so to each other.
abbrev pub Paired : {X Y : Type 0} → (X → Y → Type 0) → List (ℕ × X) → List (ℕ × Y) → Type 0
Paired R [] [] = ⊤
Paired R [] (y ∷ ys) = ⊥
Paired R (x ∷ xs) [] = ⊥
Paired R (x ∷ xs) (y ∷ ys) = (x.0 ≡ y.0) × R x.1 y.1 × Paired R xs ys

-- Both know the same connections, and what is kept of each stands for what came on it.
abbrev pub StandsFor : Known → Streams → Type 0
StandsFor known streams = Paired IsFor known streams

-- the known connection of that number
abbrev pub known_at : Known → ℕ → Option Connection
known_at known conn = lookup (is_at (nat_cmp conn)) known

-- Each known connection is open, where the wire tells its calls.
abbrev pub AreOpen : Option (List WireCall) → Known → Type 0
AreOpen calls known = (conn : ℕ) → IsSome (known_at known conn) → IsOpen calls conn

-- What was open stays open, but for a connection that doesn't stay.
abbrev pub KeepsOpen : ℕ → Option (List WireCall) → Option (List WireCall) → Bool → Type 0
KeepsOpen conn old new stays = ((other : ℕ) → other ≢ conn → IsOpen old other → IsOpen new other) × (stays ≡ true → IsOpen new conn)

-- The same behind an event: a connection that it opens is open, and one that it closes need not be.
abbrev pub AreOpenBut : Option (List WireCall) → WireEvent → Known → Type 0
AreOpenBut calls (event.Opened conn kind) known = AreOpen calls known × IsOpen calls conn
AreOpenBut calls (event.Piece conn bytes) known = AreOpen calls known
AreOpenBut calls (event.Closed conn) known = (other : ℕ) → other ≢ conn → IsSome (known_at known other) → IsOpen calls other

-- where an event stands, with what was noted of it so far
abbrev pub scene_at : WireView → EntropyState → Table → List Rolling → Stepped → Scene
scene_at wire entropy table rollouts noted = scene_of wire (sheet_of entropy table rollouts noted)

-- where an event begins: nothing is noted of it yet
abbrev pub first_scene : WireView → EntropyState → Table → List Rolling → Scene
first_scene wire entropy table rollouts = scene_of wire (record { desk = desk_of entropy table rollouts; handled = []; ordered = []; entries = [] })

-- the connection of an event
abbrev pub conn_of : WireEvent → ℕ
conn_of (event.Opened conn kind) = conn
conn_of (event.Piece conn bytes) = conn
conn_of (event.Closed conn) = conn

-- the connection, where it was known and isn't any more
abbrev pub ended_at : ℕ → Streams → Streams → List ℕ
ended_at conn old new = if is_some (stream_at old conn) && not (is_some (stream_at new conn)) then conn ∷ [] else []

-- What is due for the event is done, from where the loop stands for these streams to where it stands for those after it. Behind
-- `stop` it stands for none.
abbrev pub Steps : Host → Seen → WireEvent → Known → Known → Scene → Scene → Stepped → Type 0
Steps host seen e known known' old new stepped =
    (streams : Streams) → StandsFor known streams →
    (streams' : Streams)
    × Does host seen e (record { streams = streams; scene = old }) (record { streams = streams'; scene = new }) stepped.stop
    × (stepped.stop ≡ false → StandsFor known' streams')
    × (stepped.ended ≡ ended_at (conn_of e) streams streams')

-- Bytes come on a connection: what they bring is served, and what is kept of it then stands for them too, where it stays and the run goes on.
abbrev pub ServesPiece : Host → Sight → ℕ → List ℕ → Connection → Connection → Scene → Scene → Ending → Type 0
ServesPiece host sight conn bytes kept kept' old new end =
    (stream : Stream) → IsFor kept stream →
    ((items : List Item) × Brings sight stream bytes items × ServesAll host stream.kind conn items old new end)
    × (end.stays ≡ true → end.stop ≡ false → IsFor kept' (record stream { bytes = stream.bytes ++ bytes }))

-- the same connections, where this is kept of one of them
abbrev pub with_kept : Known → ℕ → Connection → Known
with_kept known conn kept = set_value (is_at (nat_cmp conn)) known kept

-- The same for a connection that may not be known. Lines are asked over the connections that are known.
abbrev pub TakesPiece : Host → Seen → ℕ → List ℕ → Known → Known → Scene → Scene → Ending → Type 0
TakesPiece host seen conn bytes known known' old new end =
    MatchOption (known_at known conn)
    ((known' ≡ known) × (new ≡ old) × (end ≡ record { stays = true; stop = false }))
    (λ kept. (kept' : Connection) × (known' ≡ with_kept known conn kept') × ServesPiece host (sight_of seen (numbers_in known)) conn bytes kept kept' old new end)

-- A connection that is opened is known, or closed at once.
abbrev pub Admits : ℕ → ℕ → Kind → Known → Known → WireView → WireView → Type 0
Admits limit conn k known known' wire wire' =
    (streams : Streams) → StandsFor known streams → (streams' : Streams) × Opens limit conn k streams streams' wire wire' × StandsFor known' streams'

-- The connection isn't known any more.
pub record Forgets (conn : ℕ) (old new : Known) : Type 0 where
  pub entries : new ≡ remove_entry (is_at (nat_cmp conn)) old
  pub gone : known_at new conn ≡ None
  pub others : (other : ℕ) → other ≢ conn → known_at new other ≡ known_at old other

-- the connection, where it was known
abbrev pub ended_known : ℕ → Known → List ℕ
ended_known conn known = if is_some (known_at known conn) then conn ∷ [] else []

-- These reports came on the connection of the event, which was known.
abbrev pub AreHeard : Known → WireEvent → List Handled → Type 0
AreHeard known e handled = All (λ h. (h.conn ≡ conn_of e) × IsSome (known_at known h.conn)) handled

-- Each connection that was known is known still, or is among those that ended.
abbrev pub KeepsKnown : Known → Known → List ℕ → Type 0
KeepsKnown old new ended = (conn : ℕ) → IsSome (known_at old conn) → IsSome (known_at new conn) ⊎ IsTrue (list_any (λ c. c == conn) ended)

-- What the bytes bring behind the front of a line is served, and what is kept then is the front of the next.
abbrev pub ServesLines : Host → Sight → ℕ → List ℕ → List ℕ → List ℕ → Scene → Scene → Ending → Type 0
ServesLines host sight conn part bytes part' old new end =
    (lines : List (List ℕ)) × (rest : List ℕ) × AreLines (part ++ bytes) lines rest
    × ServesAll host kind.Operator conn (map (line_item sight) lines ++ rest_items rest) old new end
    × (end.stays ≡ true → end.stop ≡ false → part' ≡ rest)

-- The same on an operator's connection that is known, of which the front of the next line is kept then.
abbrev pub TakesLines : Host → Sight → ℕ → List ℕ → List ℕ → Known → Known → Scene → Scene → Ending → Type 0
TakesLines host sight conn bytes front known known' old new end =
    (front' : List ℕ) × (known' ≡ with_kept known conn (Operator front')) × (IsOneLine front → ServesLines host sight conn front bytes front' old new end)

-- Some whole lines were served so far, and the connection stays: what is kept of the next one and what is left of the bytes stand behind them.
abbrev pub LinesServed : Profile → Sight → ℕ → List ℕ → List ℕ → (EntropyState → Scene) → (EntropyState → Scene) → Type 0
LinesServed profile sight conn all behind old new =
    (done : List (List ℕ)) × (all ≡ flat_map ended_line done ++ behind) × All IsOneLine done
    × ((entropy : EntropyState) → ServesAll (silent profile) kind.Operator conn (map (line_item sight) done) (old entropy) (new entropy) (record { stays = true; stop = false }))

-- These parts were taken of the reader, one after the other.
abbrev pub Takes : ReaderState → ReaderState → List Part → Type 0
Takes old new done = (bytes : List ℕ) (taken : List Part) → HasTaken old bytes taken → HasTaken new bytes (taken ++ done)

-- One part was handled: the request that it makes whole was served, if it makes one, and the next one stands as the part says; or
-- memory was wanting to read on.
abbrev pub ServesPart : Host → ℕ → Part → Progress → Progress → Scene → Scene → Bool → Type 0
ServesPart host conn part progress progress' old new stays =
    (under_way : Option HttpMessage) → IsUnderWay progress under_way →
    (ServesAll host kind.Http conn (map Request (with_part (holding under_way) part).whole) old new (record { stays = stays; stop = false })
    × IsUnderWay progress' (with_part (holding under_way) part).under_way)
    ⊎ ((stays ≡ false) × Serves host kind.Http conn Unread old new (record { stays = stays; stop = false }))

-- The requests that the parts make whole were served, the connection stays, and the next one stands as the parts say.
abbrev pub ServesParts : Host → ℕ → List Part → Progress → Progress → Scene → Scene → Type 0
ServesParts host conn parts progress progress' old new =
    (under_way : Option HttpMessage) → IsUnderWay progress under_way →
    ServesAll host kind.Http conn (map Request (behind under_way parts).whole) old new (record { stays = true; stop = false })
    × IsUnderWay progress' (behind under_way parts).under_way

-- The connection doesn't stay, behind some of the requests that the parts make whole, or since memory was wanting to read on behind them.
abbrev pub StopsIn : Host → ℕ → List Part → Progress → Scene → Scene → Type 0
StopsIn host conn parts progress old new =
    (under_way : Option HttpMessage) → IsUnderWay progress under_way →
    (front : List HttpMessage) × (left : List HttpMessage) × ((behind under_way parts).whole ≡ front ++ left)
    × ServesAll host kind.Http conn (map Request front ++ Unread ∷ []) old new (record { stays = false; stop = false })

-- Some parts of those that were ready were handled so far, and the connection stays.
pub record PartsServed (host : Host) (conn : ℕ) (first reader : RequestReader) (old new : Scene) : Type 0 where
  pub done : List Part
  pub ready : first.parts.ready ≡ done ++ reader.parts.ready
  pub taken : Takes first.parts reader.parts done
  pub failure : reader.parts.failure ≡ first.parts.failure
  pub served : ServesParts host conn done first.progress reader.progress old new
