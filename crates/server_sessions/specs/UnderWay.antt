-- What is kept of a connection of HTTP.
use Rattle.std.specs.Prelude.{◌≡◌, ℕ, List, [], Bool, Option, None, Some, ⊤}
use Rattle.edge_heads.specs.declared.values.Side.TheVariants.{Requests}
use Rattle.edge_http.specs.declared.messages.HttpMessage.{HttpMessage}
use Rattle.edge_http.specs.declared.messages.Part.{Part}
use Rattle.edge_http.specs.declared.TheConstants.{BODY_LIMIT}
use Rattle.edge_http.specs.Joined.{Joined, join, with_parts}
use Rattle.edge_http.specs.Readers.{ReaderState, HasRead}
use Rattle.server_sessions.specs.declared.answers.bodies.BodyReader.{BodyReader}
use Rattle.server_sessions.specs.Bodies.{HasCome}
use Rattle.server_sessions.specs.Requests.{refusal_of}
use Rattle.server_sessions.specs.declared.bodies.Progress.{Progress}
use Rattle.server_sessions.specs.declared.bodies.Progress.TheVariants.{Waiting, Reading, PassingOver}
use Rattle.server_sessions.specs.declared.bodies.RequestReader.{RequestReader}

-- The reader was fed these bytes of a stream of requests, and these parts were taken of it.
unfoldable pub HasTaken : ReaderState → List ℕ → List Part → Type 0
HasTaken reader bytes taken = HasRead reader bytes taken × (reader.side ≡ Requests) × (reader.limit ≡ BODY_LIMIT)

-- no request is whole, and this one is under way
abbrev pub holding : Option HttpMessage → Joined
holding under_way = record { whole = []; under_way = under_way }

-- the requests that these parts make whole behind the one under way, and the one that is then under way
abbrev pub behind : Option HttpMessage → List Part → Joined
behind under_way parts = with_parts (holding under_way) parts

-- The request isn't refused by its head, and of its body came what it has so far.
pub record IsRead (message : HttpMessage) (body : BodyReader) (close : Bool) : Type 0 where
  pub taken_up : refusal_of message ≡ None
  pub close_is : close ≡ message.close
  pub came : HasCome body message.body

-- The request is refused by its head with this status.
pub record IsPassedOver (message : HttpMessage) (status : ℕ) (close : Bool) : Type 0 where
  pub refused : refusal_of message ≡ Some status
  pub close_is : close ≡ message.close

-- The request under way stands so.
abbrev pub IsUnderWay : Progress → Option HttpMessage → Type 0
IsUnderWay Waiting None = ⊤
IsUnderWay Waiting (Some message) = ⊥
IsUnderWay (Reading body close) None = ⊥
IsUnderWay (Reading body close) (Some message) = IsRead message body close
IsUnderWay (PassingOver status close) None = ⊥
IsUnderWay (PassingOver status close) (Some message) = IsPassedOver message status close

-- All parts of the bytes were taken of the reader, more can come, and the request under way stands as they say.
pub record HasReadAll (reader : RequestReader) (bytes : List ℕ) : Type 0 where
  pub taken : List Part
  pub read : HasTaken reader.parts bytes taken
  pub none_left : reader.parts.ready ≡ []
  pub unfailed : reader.parts.failure ≡ None
  pub stands : IsUnderWay reader.progress (join taken).under_way
