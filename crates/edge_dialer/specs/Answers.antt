-- What the answers of servers come to.
use Rattle.std.specs.Prelude.{◌≡◌, ℕ, List, [], ◌∷◌, Bool, true, ◌==◌, ◌&&◌, not, if◌then◌else◌, Option, Some, None, Result, Ok, Err, ⊤}
use Rattle.std.specs.Io.KnownBytes.{Appends, Consumes}
use Rattle.edge_devices.specs.Endpoints.{reading_of}
use Rattle.edge_devices.specs.declared.dialers.DialFail.{DialFail}
use Rattle.edge_devices.specs.declared.dialers.DialFail.TheVariants.{Fault, NoMemory}
use Rattle.edge_devices.specs.declared.dialers.LinkFail.{LinkFail}
use Rattle.edge_devices.specs.declared.dialers.LinkFail.TheVariants.{Fault as LinkFaulted, NoMemory as LinkNoMemory}
use Rattle.edge_devices.specs.declared.endpoints.Endpoint.{Endpoint}
use Rattle.edge_heads.specs.declared.values.Side.{Side}
use Rattle.edge_heads.specs.declared.values.Side.TheVariants.{Responses}
use Rattle.edge_heads.specs.declared.values.HttpFail.{HttpFail}
use Rattle.edge_heads.specs.declared.values.HttpFail.TheVariants as reading
use Rattle.edge_http.specs.declared.messages.HttpMessage.{HttpMessage}
use Rattle.edge_http.specs.Streams.{Begins, Failed, Open, Reads}

-- a failure of a link, where a dial or a fetch made it
abbrev pub dial_fail_of : LinkFail → DialFail
dial_fail_of LinkFaulted = Fault
dial_fail_of LinkNoMemory = NoMemory

-- a failure of reading a response, as one of the link
abbrev pub link_fail_of : HttpFail → LinkFail
link_fail_of reading.NoMemory = LinkNoMemory
link_fail_of _ = LinkFaulted

-- the response is an answer (RFC 9110, 15.3.1 and 8.4)
abbrev pub is_answer : HttpMessage → Bool
is_answer message = (message.status == 200) && not message.coded

abbrev pub answer_of : HttpMessage → Result (List ℕ) LinkFail
answer_of message = if is_answer message then Ok message.body else Err LinkFaulted

-- The connection can serve a further request: the response doesn't close it (RFC 9112, 9.3), and came alone.
abbrev pub may_stay : HttpMessage → Bool → Bool
may_stay message alone = not message.close && alone

-- an endpoint that no file can be fetched from
abbrev pub is_no_target : Option Endpoint → Bool
is_no_target (Some to) = to.ws
is_no_target None = true

-- A URL is refused by a fault exactly where it is no endpoint of the scheme `http`.
abbrev pub TargetFails : List ℕ → LinkFail → Type 0
TargetFails url LinkFaulted = is_no_target (reading_of url) ≡ true
TargetFails url LinkNoMemory = ⊤

-- What the bytes behind a request are: a whole response first; none yet, and one can come; or none can come.
abbrev pub ReceivedIs : Side → ℕ → List ℕ → Result (Option HttpMessage) LinkFail → Type 0
ReceivedIs side limit bytes (Ok (Some message)) = (later : List HttpMessage) × (rest : List ℕ) × Begins side limit bytes (message ∷ later) rest
ReceivedIs side limit bytes (Ok None) = (under_way : Option HttpMessage) × Reads side limit bytes [] (Open under_way)
ReceivedIs side limit bytes (Err LinkFaulted) = (why : HttpFail) × Reads side limit bytes [] (Failed why)
ReceivedIs side limit bytes (Err LinkNoMemory) = ⊤

-- The stream gave bytes whose first whole response is this one; where it came alone they are that response, with
-- nothing behind it.
pub record ReadsFirst (side : Side) (limit : ℕ) (old new : Option (List ℕ)) (message : HttpMessage) (alone : Bool) : Type 0 where
  pub came : List ℕ
  pub consumed : Consumes old new came
  pub later : List HttpMessage
  pub rest : List ℕ
  pub begins : Begins side limit came (message ∷ later) rest
  pub ends : alone ≡ true → Begins side limit came (message ∷ []) []

-- The request was written to the stream, and what it then gave begins with this response.
pub record AsksOver {S : Type 0} (contents remaining : S → Option (List ℕ)) (side : Side) (limit : ℕ) (old new : S) (request : List ℕ)
    (message : HttpMessage) (alone : Bool) : Type 0 where
  pub asked : S
  pub written : Appends (contents old) (contents asked) request
  pub first : ReadsFirst side limit (remaining asked) (remaining new) message alone

-- The answer is that of the first response behind the request, of at most 4,194,304 bytes, and the connection is kept
-- only where that response lets it be and came alone. One that came alone may be taken for one that didn't.
pub record ExchangesOver {S : Type 0} (contents remaining : S → Option (List ℕ)) (old : S) (request : List ℕ)
    (answer : Result (List ℕ) LinkFail) (kept : Option S) : Type 0 where
  pub now : S
  pub message : HttpMessage
  pub alone : Bool
  pub asks : AsksOver contents remaining Responses 4194304 old now request message alone
  pub answer_is : answer ≡ answer_of message
  pub kept_is : kept ≡ (if may_stay message alone then Some now else None)

-- The file is the answer of the first response behind the request, of at most 16,777,216 bytes.
pub record FetchesOver {S : Type 0} (contents remaining : S → Option (List ℕ)) (old new : S) (request file : List ℕ) : Type 0 where
  pub message : HttpMessage
  pub alone : Bool
  pub asks : AsksOver contents remaining Responses 16777216 old new request message alone
  pub file_is : Ok file ≡ answer_of message

-- Over some connection the request was exchanged for this answer, and that connection is kept or none.
abbrev pub AnswersSomewhere : {S : Type 0} → (S → Option (List ℕ)) → (S → Option (List ℕ)) → List ℕ → List ℕ → Option S → Type 0
AnswersSomewhere {S} contents remaining request answer kept = (old : S) × ExchangesOver contents remaining old request (Ok answer) kept

-- Over some connection the file was fetched by this request.
abbrev pub FetchesSomewhere : {S : Type 0} → (S → Option (List ℕ)) → (S → Option (List ℕ)) → List ℕ → List ℕ → Type 0
FetchesSomewhere {S} contents remaining request file = (old : S) × (new : S) × FetchesOver contents remaining old new request file
