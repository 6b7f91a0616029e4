-- How far an input is read, for a caller that has its frames handled block by block.
use Rattle.std.specs.Prelude.{◌≡◌, ℕ, ◌≤◌, List, Option}
use Rattle.std.specs.Io.KnownBytes.{Consumes}
use Rattle.command_streams.specs.Framing.{frames_of}
use Rattle.command_streams.specs.Made.{Gives}
use Rattle.command_streams.specs.Reading.{Step, messages_of, place_after, state_after, AreSteps}
use Rattle.command_streams.specs.Held.{HeldState, taken_of, ahead}
use Rattle.command_streams.specs.Blocks.{FramesPass}

-- Frames at the front of what was held were passed over, by steps that go from one state to another.
abbrev pub Passes : {State : Type 0} → Gives State → State → State → HeldState → HeldState → Type 0
Passes {State} gives start now old new = (steps : List (Step State)) × FramesPass gives start old new steps × (now ≡ state_after start steps)

-- The frames of these steps were read of the input, and what is held and what the source has left comes behind them.
pub record IsReadTo {State : Type 0} (gives : Gives State) (start : State) (budget : ℕ) (held : HeldState) (state : State) (input left : Option (List ℕ)) : Type 0 where
  pub steps : List (Step State)
  pub each : AreSteps gives start steps
  pub taken : Consumes input (ahead held left) (frames_of (messages_of steps))
  pub place : held.at ≡ place_after steps
  pub state_is : state ≡ state_after start steps
  pub within : taken_of held ≤ budget
