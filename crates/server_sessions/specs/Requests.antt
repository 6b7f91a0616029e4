-- What a request gets.
use Rattle.std.specs.Prelude.{◌≡◌, ℕ, ◌⊎◌, List, [], Bool, true, not, ◌||◌, ◌==◌, if◌then◌else◌, Option, None, Some, MatchOption, position, take, codes}
use Rattle.std.specs.Str.{bytes_eq}
use Rattle.message_values.specs.declared.report.AgentToServer.{AgentToServer}
use Rattle.edge_heads.specs.declared.values.HttpFail.{HttpFail}
use Rattle.edge_heads.specs.declared.values.HttpFail.TheVariants.{BadHead, HeadTooLong, TooManyHeaders, NoLength, BadChunk, BodyTooLarge, NoMemory}
use Rattle.edge_http.specs.declared.messages.HttpMessage.{HttpMessage}
use Rattle.edge_http.specs.Writing.{response_text}
use Rattle.server_sessions.specs.declared.answers.answering.Envelope.TheVariants.{Response}
use Rattle.server_sessions.specs.declared.answers.stepped.Handled.{Handled}
use Rattle.server_sessions.specs.Reports.{AnswersReport, Host, Intake, IsReport, IsNoReport, HalfReads}

abbrev pub front_to : Option ℕ → List ℕ → List ℕ
front_to None bytes = bytes
front_to (Some end) bytes = take end bytes

-- the target before any `?` (RFC 9112, section 3.2.1)
abbrev pub path_in : List ℕ → List ℕ
path_in target = front_to (position (λ byte. byte == 63) target) target

-- the status of a request that is refused by its head (RFC 9110, section 15.5; OpAMP specification, "Plain HTTP Transport")
unfoldable pub refusal_of : HttpMessage → Option ℕ
refusal_of m =
    if not (bytes_eq (path_in m.target) (codes "/v1/opamp")) then Some 404
    else if not (bytes_eq m.method (codes "POST")) then Some 405
    else if not m.protobuf || m.coded then Some 415
    else None

-- The status of a reader's failure (RFC 9110, section 15.5; RFC 6585, section 5). A request never lacks a length.
abbrev pub status_of : HttpFail → ℕ
status_of BadHead = 400
status_of HeadTooLong = 431
status_of TooManyHeaders = 431
status_of NoLength = 400
status_of BadChunk = 400
status_of BodyTooLarge = 413
status_of NoMemory = 503

-- The body of a request that its head doesn't refuse: it gets a reply, or is refused, which changes nothing.
abbrev pub AnswersBody : Host → ℕ → List ℕ → Bool → Intake → Intake → List Handled → List Handled → List ℕ → Type 0
AnswersBody host conn bytes closes old new handled noted answer =
    (IsNoReport bytes × (new ≡ old) × (noted ≡ handled) × (answer ≡ response_text 400 [] closes))
    ⊎ ((m : AgentToServer) × IsReport bytes m × AnswersReport (Response closes) host conn m old new handled noted answer)

-- A request is refused by its head, which changes nothing, or its body is answered.
abbrev pub AnswersRequest : Host → ℕ → HttpMessage → Intake → Intake → List Handled → List Handled → List ℕ → Type 0
AnswersRequest host conn m old new handled noted answer =
    MatchOption (refusal_of m)
    (AnswersBody host conn m.body m.close old new handled noted answer)
    (λ status. (new ≡ old) × (noted ≡ handled) × (answer ≡ response_text status [] m.close))

-- Memory was wanting for a request.
abbrev pub HalfTakesRequest : HttpMessage → Intake → Intake → Type 0
HalfTakesRequest m old new = MatchOption (refusal_of m) (HalfReads m.body old new) (λ status. new ≡ old)

-- what answers a reader's failure, behind which the connection is closed
abbrev pub failure_answer : HttpFail → List ℕ
failure_answer why = response_text (status_of why) [] true
