-- How far a stream is read by a command, and where reading stops.
use Rattle.std.specs.Prelude.{◌≡◌, ℕ, ◌+◌, ◌<◌, ◌≤◌, List, [], ◌∷◌, ◌++◌, length, map, take}
use Rattle.std.specs.List.{flat_map}
use Rattle.message_codec.specs.declared.wire.field.Why.{Why}
use Rattle.message_codec.specs.declared.wire.field.Why.TheVariants.{TooLarge, Truncated}
use Rattle.command_streams.specs.declared.stop.Stop.{Stop}
use Rattle.command_streams.specs.declared.stop.Stop.TheVariants.{Ended, Refused, TooLong, Spent}
use Rattle.command_streams.specs.Framing.{frame_of, frames_of, FitsFrame, BeginsTooLarge, IsPartial}
use Rattle.command_streams.specs.Made.{Made, Writes, HasFault, IsTooLong, Gives}

-- a message that was handled, what was written for it, and the state after it
pub record Step (State : Type 0) : Type 0 where
  pub message : List ℕ
  pub output : List ℕ
  pub after : State

abbrev pub messages_of : {State : Type 0} → List (Step State) → List (List ℕ)
messages_of steps = map (λ step. step.message) steps

abbrev pub outputs_of : {State : Type 0} → List (Step State) → List ℕ
outputs_of steps = flat_map (λ step. step.output) steps

-- the number of bytes that the steps' frames take
abbrev pub place_after : {State : Type 0} → List (Step State) → ℕ
place_after steps = length (frames_of (messages_of steps))

abbrev pub state_after : {State : Type 0} → State → List (Step State) → State
state_after state [] = state
state_after state (step ∷ steps) = state_after step.after steps

-- These are steps of the command from this state on.
abbrev pub AreSteps : {State : Type 0} → Gives State → State → List (Step State) → Type 0
AreSteps gives state [] = Unit {0}
AreSteps gives state (step ∷ steps) = FitsFrame step.message × gives state step.message (Writes step.output) step.after × AreSteps gives step.after steps

-- A frame stands at the front, of whose message the command may make this.
pub record BeginsMade {State : Type 0} (gives : Gives State) (state : State) (bytes : List ℕ) (made : Made) : Type 0 where
  pub message : List ℕ
  pub more : List ℕ
  pub after : State
  pub whole : bytes ≡ frame_of message ++ more
  pub fits : FitsFrame message
  pub is : gives state message made after

-- The input has this fault, where frames of it end at `at` and `rest` is what the budget leaves behind them: a length above the limit, an end inside a frame,
-- or a fault of a message.
pub data FaultAt {State : Type 0} (gives : Gives State) (state : State) (budget : ℕ) (bytes : List ℕ) (at : ℕ) (rest : List ℕ) (place : ℕ) (why : Why) : Type 0 where
  large_frame : place ≡ at → why ≡ TooLarge → BeginsTooLarge rest → FaultAt gives state budget bytes at rest place why
  cut_frame : place ≡ at → why ≡ Truncated → length bytes < budget → 0 < length rest → IsPartial rest → FaultAt gives state budget bytes at rest place why
  bad_message : (offset : ℕ) → place ≡ at + 4 + offset → BeginsMade gives state rest (HasFault offset why) → FaultAt gives state budget bytes at rest place why

-- There is no further message, and reading stops so. The budget is spent where so many bytes were there, even if they end with a frame.
abbrev pub StopsAt : {State : Type 0} → Gives State → State → ℕ → List ℕ → ℕ → List ℕ → Stop → Type 0
StopsAt gives state budget bytes at rest Ended = (length bytes < budget) × (rest ≡ [])
StopsAt gives state budget bytes at rest (Refused place why) = FaultAt gives state budget bytes at rest place why
StopsAt gives state budget bytes at rest TooLong = BeginsMade gives state rest IsTooLong
StopsAt gives state budget bytes at rest Spent = (budget ≤ length bytes) × IsPartial rest

-- What is left of the command where reading stopped, this being its state behind the messages that were handled: that state, or the one after a message that has
-- a fault, or for which too much would be written.
pub data IsLeft {State : Type 0} (gives : Gives State) (state now : State) : Type 0 where
  behind_messages : now ≡ state → IsLeft gives state now
  behind_fault : (message : List ℕ) (at : ℕ) (why : Why) → gives state message (HasFault at why) now → IsLeft gives state now
  behind_length : (message : List ℕ) → gives state message IsTooLong now → IsLeft gives state now

-- Within the budget the bytes are the frames of these steps, and then the rest.
pub record Begins {State : Type 0} (gives : Gives State) (start : State) (budget : ℕ) (bytes : List ℕ) (steps : List (Step State)) (rest : List ℕ) : Type 0 where
  pub parts : take budget bytes ≡ frames_of (messages_of steps) ++ rest
  pub each : AreSteps gives start steps

-- They are the frames of these steps, and then reading stops so.
pub record Reads {State : Type 0} (gives : Gives State) (start : State) (budget : ℕ) (bytes : List ℕ) (steps : List (Step State)) (stop : Stop) : Type 0 where
  pub rest : List ℕ
  pub begins : Begins gives start budget bytes steps rest
  pub stops : StopsAt gives (state_after start steps) budget bytes (place_after steps) rest stop
