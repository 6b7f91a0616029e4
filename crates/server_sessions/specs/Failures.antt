-- What is read of requests, and what is answered to those that are refused and where reading fails.
use Rattle.std.specs.Prelude.{◌≡◌, ℕ, ◌⊎◌, List, [], ◌∷◌, Bool, true, false, if◌then◌else◌, Option, Some, Result, Ok, Err}
use Rattle.edge_heads.specs.declared.values.HttpFail.{HttpFail}
use Rattle.edge_heads.specs.declared.values.HttpFail.TheVariants.{BadHead, HeadTooLong, TooManyHeaders, NoLength, BadChunk, BodyTooLarge, NoMemory}
use Rattle.edge_http.specs.declared.messages.HttpMessage.{HttpMessage}
use Rattle.edge_http.specs.Streams.{Open}
use Rattle.edge_http.specs.Writing.{response_text}
use Rattle.server_sessions.specs.declared.answers.limits.TheConstants.{HTTP_NO_MEMORY}
use Rattle.server_sessions.specs.Answers.{GoesOut}
use Rattle.server_sessions.specs.Requests.{failure_answer}
use Rattle.server_sessions.specs.Streams.{Item, Broken, Unread, AreRead, ReadsRequests}
use Rattle.server_sessions.specs.Wiring.{WireView}

abbrev pub is_no_memory : HttpFail → Bool
is_no_memory BadHead = false
is_no_memory HeadTooLong = false
is_no_memory TooManyHeaders = false
is_no_memory NoLength = false
is_no_memory BadChunk = false
is_no_memory BodyTooLarge = false
is_no_memory NoMemory = true

-- what there is behind the requests that were read before the failure
abbrev pub failure_items : HttpFail → List Item
failure_items why = (if is_no_memory why then Unread else Broken why) ∷ []

-- The bytes are these requests and more can come, or their reading failed so.
abbrev pub FedIs : List ℕ → List HttpMessage → Result Unit HttpFail → Type 0
FedIs bytes requests (Ok done) = (under_way : Option HttpMessage) × ReadsRequests bytes requests (Open under_way)
FedIs bytes requests (Err why) = AreRead bytes requests (failure_items why)

-- A request that its head refuses with this status was answered, or memory was wanting for that.
abbrev pub AnswersRefusal : ℕ → ℕ → Bool → WireView → WireView → Bool → Type 0
AnswersRefusal conn status close old new stays =
    GoesOut conn (Some HTTP_NO_MEMORY) true old new stays ⊎ GoesOut conn (Some (response_text status [] close)) close old new stays

-- A reader's failure was answered, or memory was wanting for that, and the connection doesn't stay.
abbrev pub AnswersFailure : ℕ → HttpFail → WireView → WireView → Type 0
AnswersFailure conn why old new =
    GoesOut conn (Some HTTP_NO_MEMORY) true old new false
    ⊎ ((is_no_memory why ≡ false) × GoesOut conn (Some (failure_answer why)) true old new false)
