-- What a reader of whole messages has read.
use Rattle.std.specs.Prelude.{◌≡◌, ℕ, List, [], ◌++◌, Option, Some, None, Bool, true, false, Result, Ok, Err}
use Rattle.edge_heads.specs.declared.values.HttpFail.{HttpFail}
use Rattle.edge_heads.specs.declared.values.HttpFail.TheVariants.{NoMemory}
use Rattle.edge_http.specs.declared.messages.HttpMessage.{HttpMessage}
use Rattle.edge_http.specs.declared.messages.Part.{Part}
use Rattle.edge_http.specs.Streams.{Reads, Open}
use Rattle.edge_http.specs.Joined.{Joined, join}
use Rattle.edge_http.specs.Readers.{ReaderState, HasFailed, HasRead}

-- the reader of its parts, the message under way, the messages that weren't taken, and whether memory was wanting in joining parts
pub record PollState : Type 0 where
  pub parts : ReaderState
  pub under_way : Option HttpMessage
  pub ready : List HttpMessage
  pub failed : Bool

abbrev pub failure_by : Bool → Option HttpFail → Option HttpFail
failure_by true failure = Some NoMemory
failure_by false failure = failure

-- why it fails, or none
abbrev pub poll_failure : PollState → Option HttpFail
poll_failure state = failure_by state.failed state.parts.failure

-- The parts taken of the reader of parts are together these messages and the message under way.
pub record Joins (state : PollState) (bytes : List ℕ) (taken : List HttpMessage) : Type 0 where
  pub parts : List Part
  pub read : HasRead state.parts bytes parts
  pub joined : join parts ≡ record { whole = taken ++ state.ready; under_way = state.under_way }

-- Joining parts ended for want of memory, after these messages.
abbrev pub WantedMemory : PollState → List ℕ → List HttpMessage → Type 0
WantedMemory state bytes taken = HasFailed state.parts.side state.parts.limit bytes (taken ++ state.ready) NoMemory

abbrev pub PolledBy : PollState → List ℕ → List HttpMessage → Bool → Type 0
PolledBy state bytes taken false = Joins state bytes taken × (state.parts.ready ≡ [])
PolledBy state bytes taken true = WantedMemory state bytes taken

-- The reader was fed these bytes, and these messages were taken of it.
abbrev pub HasPolled : PollState → List ℕ → List HttpMessage → Type 0
HasPolled state bytes taken = PolledBy state bytes taken state.failed

-- With all parts joined: what it told is what the bytes are.
abbrev pub PollTells : PollState → List ℕ → List HttpMessage → Option HttpFail → Type 0
PollTells state bytes messages None = Reads state.parts.side state.parts.limit bytes messages (Open state.under_way)
PollTells state bytes messages (Some why) = HasFailed state.parts.side state.parts.limit bytes messages why

-- the messages and the message under way that it holds
abbrev pub held : PollState → Joined
held state = record { whole = state.ready; under_way = state.under_way }

-- The reader of parts still fails so, or doesn't, and the messages that were whole are still there.
pub record SameParts (old new : PollState) : Type 0 where
  pub side : new.parts.side ≡ old.parts.side
  pub limit : new.parts.limit ≡ old.parts.limit
  pub failure : new.parts.failure ≡ old.parts.failure
  pub failed : new.failed ≡ old.failed
  pub kept : (more : List HttpMessage) × (new.ready ≡ old.ready ++ more)

-- Parts were joined to what is held, all of them or up to want of memory.
abbrev pub JoinedIs : {T : Type 0} → PollState → PollState → Result T HttpFail → Type 0
JoinedIs old new (Ok _) = SameParts old new × (new.parts.ready ≡ []) × ((bytes : List ℕ) (taken : List HttpMessage) → Joins old bytes taken → Joins new bytes taken)
JoinedIs old new (Err why) = SameParts old new × (why ≡ NoMemory) × ((bytes : List ℕ) (taken : List HttpMessage) → Joins old bytes taken → WantedMemory new bytes taken)
