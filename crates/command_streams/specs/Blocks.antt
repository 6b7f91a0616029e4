-- What becomes of the frames of a block: the bytes that are held at one time.
use Rattle.std.specs.Prelude.{◌≡◌, ℕ, ◌+◌, List, ◌++◌, take, Option, Result, Ok, Err, IfOk}
use Rattle.std.specs.Io.KnownBytes.{Appends}
use Rattle.plain_values.specs.declared.memory.NoMemory.{NoMemory as WantOfMemory}
use Rattle.command_streams.specs.declared.answering.Halt.{Halt}
use Rattle.command_streams.specs.declared.answering.Halt.TheVariants as halt
use Rattle.command_streams.specs.declared.stop.Stop.{Stop}
use Rattle.command_streams.specs.declared.stop.RunFail.{RunFail}
use Rattle.command_streams.specs.declared.stop.RunFail.TheVariants.{ReadFault, WriteFault, NoMemory}
use Rattle.command_streams.specs.Framing.{frames_of}
use Rattle.command_streams.specs.Made.{Gives}
use Rattle.command_streams.specs.Reading.{Step, messages_of, outputs_of, place_after, state_after, AreSteps, IsLeft, StopsAt}
use Rattle.command_streams.specs.Held.{HeldState}
use Rattle.command_streams.specs.Fronts.{Wants}

-- The frames of these steps stood at the front, and what stood behind them is held on.
pub record FramesPass {State : Type 0} (gives : Gives State) (start : State) (old new : HeldState) (steps : List (Step State)) : Type 0 where
  pub each : AreSteps gives start steps
  pub bytes : old.bytes ≡ frames_of (messages_of steps) ++ new.bytes
  pub place : new.at ≡ old.at + place_after steps

-- Reading stops so at the held bytes, whatever follows them.
abbrev pub StopsInHeld : {State : Type 0} → Gives State → State → HeldState → Stop → Type 0
StopsInHeld gives state held stop = (budget : ℕ) (bytes more : List ℕ) → StopsAt gives state budget bytes held.at (held.bytes ++ more) stop

-- No whole frame is left, or reading stops and leaves the command so. `state` is the one behind the frames, and `now` the one that the command is in.
abbrev pub HaltIs : {State : Type 0} → Gives State → State → State → HeldState → Halt → Type 0
HaltIs gives state now held (halt.Wants need) = (now ≡ state) × Wants held.bytes need
HaltIs gives state now held (halt.Stops stop) = StopsInHeld gives state held stop × IsLeft gives state now

-- Frames were answered up to a halt or to want of memory, and their outputs were added to those that are still to be written.
abbrev pub AnswersHeld : {State : Type 0} → Gives State → State → State → HeldState → HeldState → List ℕ → List ℕ → Result Halt WantOfMemory → Type 0
AnswersHeld {State} gives start now old new pending pending' r =
    (steps : List (Step State)) × FramesPass gives start old new steps × (pending' ≡ pending ++ outputs_of steps) × IfOk r (HaltIs gives (state_after start steps) now new)

-- The outputs were written, or with a write fault a front of them.
abbrev pub OutputsPut : Option (List ℕ) → Option (List ℕ) → List ℕ → Result Halt RunFail → Type 0
OutputsPut old new outputs (Ok it) = Appends old new outputs
OutputsPut old new outputs (Err ReadFault) = ⊥
OutputsPut old new outputs (Err WriteFault) = (n : ℕ) × Appends old new (take n outputs)
OutputsPut old new outputs (Err NoMemory) = Appends old new outputs

-- Frames were answered up to a halt or to want of memory, and then their outputs were written.
abbrev pub AnswersBlock : {State : Type 0} → Gives State → State → State → HeldState → HeldState → Option (List ℕ) → Option (List ℕ) → Result Halt RunFail → Type 0
AnswersBlock {State} gives start now old new taken taken' r =
    (steps : List (Step State)) × FramesPass gives start old new steps × OutputsPut taken taken' (outputs_of steps) r × IfOk r (HaltIs gives (state_after start steps) now new)

-- Frames were handled up to a halt or to want of memory, and their outputs were left out.
abbrev pub HandlesHeld : {State : Type 0} → Gives State → State → State → HeldState → HeldState → Result Halt WantOfMemory → Type 0
HandlesHeld {State} gives start now old new r = (steps : List (Step State)) × FramesPass gives start old new steps × IfOk r (HaltIs gives (state_after start steps) now new)
