-- What comes on a connection, and what there is to answer in it.
use Rattle.std.specs.Prelude.{◌≡◌, ◌≢◌, ℕ, ◌⊎◌, List, [], ◌∷◌, ◌++◌, All, map, length, nat_le, Option, if◌then◌else◌}
use Rattle.std.specs.List.{flat_map}
use Rattle.edge_devices.specs.declared.wires.Kind.{Kind}
use Rattle.edge_devices.specs.declared.wires.Kind.TheVariants.{Http, Ws, Operator}
use Rattle.edge_heads.specs.declared.values.HttpFail.{HttpFail}
use Rattle.edge_heads.specs.declared.values.Side.TheVariants.{Requests}
use Rattle.edge_http.specs.declared.messages.HttpMessage.{HttpMessage}
use Rattle.edge_http.specs.Streams.{Rest, Open, Failed, Begins, Reads}
use Rattle.edge_http.specs.declared.TheConstants.{BODY_LIMIT}
use Rattle.server_lines.specs.Sights.{Sight}
use Rattle.server_sessions.specs.declared.answers.limits.TheConstants.{LINE_LIMIT}

-- a known connection: what it speaks, and all bytes that came on it
pub record Stream : Type 0 where
  pub kind : Kind
  pub bytes : List ℕ

-- What there is to answer: the payload of a message of WebSocket, a line of an operator with what it is asked over, a line that is too long, a
-- request of HTTP, why no further one can be read, or the front of a line that isn't whole yet; and that memory was wanting to read further.
pub data Item : Type 0 where
  Payload : List ℕ → Item
  Line : List ℕ → Sight → Item
  LongLine : Item
  Partial : Item
  Request : HttpMessage → Item
  Broken : HttpFail → Item
  Unread : Item

-- a line with its line feed
abbrev pub ended_line : List ℕ → List ℕ
ended_line line = line ++ 10 ∷ []

-- no line feed stands in it
abbrev pub IsOneLine : List ℕ → Type 0
IsOneLine line = All (λ byte. byte ≢ 10) line

-- The bytes are these lines, and then the front of one.
pub record AreLines (bytes : List ℕ) (lines : List (List ℕ)) (rest : List ℕ) : Type 0 where
  pub whole : bytes ≡ flat_map ended_line lines ++ rest
  pub each : All IsOneLine lines
  pub partial : IsOneLine rest

-- a line, where it isn't too long
abbrev pub line_item : Sight → List ℕ → Item
line_item sight line = if nat_le (length line) LINE_LIMIT then Line line sight else LongLine

-- what there is behind the last line feed
abbrev pub rest_items : List ℕ → List Item
rest_items [] = []
rest_items (byte ∷ bytes) = (if nat_le (length (byte ∷ bytes)) LINE_LIMIT then Partial else LongLine) ∷ []

-- The lines that the piece makes whole, behind those of the bytes before it.
abbrev pub AreNewLines : Sight → List ℕ → List ℕ → List Item → Type 0
AreNewLines sight before piece items =
    (old : List (List ℕ)) × (new : List (List ℕ)) × (part : List ℕ) × (rest : List ℕ)
    × AreLines before old part
    × AreLines (before ++ piece) (old ++ new) rest
    × (items ≡ map (line_item sight) new ++ rest_items rest)

-- The bytes are these requests and such a rest (RFC 9112).
unfoldable pub ReadsRequests : List ℕ → List HttpMessage → Rest → Type 0
ReadsRequests bytes requests rest = Reads Requests BODY_LIMIT bytes requests rest

-- The bytes begin with these requests.
unfoldable pub BeginsRequests : List ℕ → List HttpMessage → Type 0
BeginsRequests bytes requests = (rest : List ℕ) × Begins Requests BODY_LIMIT bytes requests rest

-- what there is behind the last whole request: why nothing more can be read, or nothing yet
abbrev pub broken_items : Rest → List Item
broken_items (Open under_way) = []
broken_items (Failed why) = Broken why ∷ []

-- The bytes are the requests that were read before and these new ones, and then these items: all that can be read of them, or
-- what was read of them before memory was wanting.
abbrev pub AreRead : List ℕ → List HttpMessage → List Item → Type 0
AreRead bytes requests items =
    ((rest : Rest) × ReadsRequests bytes requests rest × (items ≡ broken_items rest))
    ⊎ (BeginsRequests bytes requests × (items ≡ Unread ∷ []))

-- The requests that the piece makes whole, behind those of the bytes before it, and what there is behind them.
abbrev pub AreNewRequests : List ℕ → List ℕ → List Item → Type 0
AreNewRequests before piece items =
    (old : List HttpMessage) × (new : List HttpMessage) × (under_way : Option HttpMessage) × (last : List Item)
    × ReadsRequests before old (Open under_way)
    × AreRead (before ++ piece) (old ++ new) last
    × (items ≡ map Request new ++ last)

abbrev pub BringsOn : Kind → Sight → List ℕ → List ℕ → List Item → Type 0
BringsOn Http sight before piece items = AreNewRequests before piece items
BringsOn Ws sight before piece items = items ≡ Payload piece ∷ []
BringsOn Operator sight before piece items = AreNewLines sight before piece items

-- What a piece brings to answer, in order, behind the bytes that came before it. Lines are asked over this.
abbrev pub Brings : Sight → Stream → List ℕ → List Item → Type 0
Brings sight stream piece items = BringsOn stream.kind sight stream.bytes piece items
