-- What the loop over messages leaves.
use Rattle.std.specs.Prelude.{ℕ, ◌+◌, ◌≤◌, List, ◌++◌, length, take, Option, IfSome}
use Rattle.std.specs.Io.KnownBytes.{Appends, Keeps, Consumes}
use Rattle.command_streams.specs.declared.held.TheConstants.{BLOCK}
use Rattle.command_streams.specs.declared.stop.Stop.{Stop}
use Rattle.command_streams.specs.declared.stop.RunFail.{RunFail}
use Rattle.command_streams.specs.declared.stop.RunFail.TheVariants.{ReadFault, WriteFault, NoMemory}
use Rattle.command_streams.specs.Made.{Gives}
use Rattle.command_streams.specs.Framing.{frames_of, IsPartial}
use Rattle.command_streams.specs.Fronts.{Wants}
use Rattle.command_streams.specs.Reading.{Step, messages_of, outputs_of, state_after, AreSteps, IsLeft, Reads}
use Rattle.command_streams.specs.Output.{IsAnswerSoFar, IsFrontOf}

-- All messages were handled up to a stop, and their outputs were written. The command is left in a state.
abbrev pub IsReplied : {State : Type 0} → Gives State → State → State → ℕ → Option (List ℕ) → Option (List ℕ) → Option (List ℕ) → Stop → Type 0
IsReplied {State} gives start now budget input old new stop =
    (steps : List (Step State)) × AreSteps gives start steps × IfSome input (λ bytes. Reads gives start budget bytes steps stop) × Appends old new (outputs_of steps) × IsLeft gives (state_after start steps) now

-- All messages were handled up to a stop. The command, which was in one state, is left in another.
pub record TakesAll {State : Type 0} (gives : Gives State) (start now : State) (budget : ℕ) (input : Option (List ℕ)) (stop : Stop) : Type 0 where
  pub steps : List (Step State)
  pub each : AreSteps gives start steps
  pub reads : IfSome input (λ bytes. Reads gives start budget bytes steps stop)
  pub left : IsLeft gives (state_after start steps) now

-- What was written is the output of a beginning, or a front of it.
abbrev pub WritesSoFar : {State : Type 0} → Gives State → State → ℕ → Option (List ℕ) → Option (List ℕ) → Option (List ℕ) → Type 0
WritesSoFar gives start budget input old new = (out : List ℕ) × Appends old new out × IsAnswerSoFar gives start budget input out

abbrev pub WritesFront : {State : Type 0} → Gives State → State → ℕ → Option (List ℕ) → Option (List ℕ) → Option (List ℕ) → Type 0
WritesFront gives start budget input old new = (out : List ℕ) × (whole : List ℕ) × Appends old new out × IsFrontOf out whole × IsAnswerSoFar gives start budget input whole

abbrev pub IsCut : {State : Type 0} → Gives State → State → ℕ → Option (List ℕ) → Option (List ℕ) → Option (List ℕ) → RunFail → Type 0
IsCut gives start budget input old new ReadFault = WritesSoFar gives start budget input old new
IsCut gives start budget input old new WriteFault = WritesFront gives start budget input old new
IsCut gives start budget input old new NoMemory = WritesSoFar gives start budget input old new

-- Writing some bytes failed so: with no memory nothing was written, with a write fault a front of them.
abbrev pub IsCutShort : Option (List ℕ) → Option (List ℕ) → List ℕ → RunFail → Type 0
IsCutShort old new bytes ReadFault = ⊥
IsCutShort old new bytes WriteFault = (n : ℕ) × Appends old new (take n bytes)
IsCutShort old new bytes NoMemory = Keeps old new

-- What was taken of the source is the frames of these steps and then less than a frame, and the whole output of the steps was written.
pub record WritesAllTaken {State : Type 0} (gives : Gives State) (start : State) (left left' old new : Option (List ℕ)) : Type 0 where
  pub steps : List (Step State)
  pub part : List ℕ
  pub each : AreSteps gives start steps
  pub cut : IsPartial part
  pub taken : Consumes left left' (frames_of (messages_of steps) ++ part)
  pub written : Appends old new (outputs_of steps)

-- What was taken of the source: the frames of these steps and less than a frame, and then what its last call brought. That was asked for no more than the frame
-- needs and a block. So no fault was among the bytes when the source was asked last. All of it is within the budget.
pub record TakesNoFurther {State : Type 0} (gives : Gives State) (start : State) (budget : ℕ) (left left' : Option (List ℕ)) : Type 0 where
  pub steps : List (Step State)
  pub cut : List ℕ
  pub last : List ℕ
  pub need : ℕ
  pub each : AreSteps gives start steps
  pub wants : Wants cut need
  pub taken : Consumes left left' (frames_of (messages_of steps) ++ (cut ++ last))
  pub few : length (cut ++ last) ≤ need + BLOCK
  pub within : length (frames_of (messages_of steps) ++ (cut ++ last)) ≤ budget

-- The whole output of the steps before the last call of the source was written, and then some more.
pub record WritesBeforeLast {State : Type 0} (gives : Gives State) (start : State) (budget : ℕ) (left left' old new : Option (List ℕ)) : Type 0 where
  pub takes : TakesNoFurther gives start budget left left'
  pub more : List ℕ
  pub written : Appends old new (outputs_of takes.steps ++ more)
