-- What is written for a framed input, and how a run ends.
use Rattle.std.specs.Prelude.{◌≡◌, ℕ, ◌⊎◌, List, [], ◌∷◌, ◌++◌, Option, IfSome, Result, Ok, Err, codes}
use Rattle.std.specs.Fmt.{decimal}
use Rattle.std.specs.Io.KnownBytes.{Appends}
use Rattle.message_codec.specs.declared.wire.field.Why.{Why}
use Rattle.message_codec.specs.declared.wire.field.Why.TheVariants.{Truncated, VarintTooLong, BadTag, Group, BadWireType, NotUtf8, TooDeep, TooLarge}
use Rattle.command_streams.specs.declared.stop.Stop.{Stop}
use Rattle.command_streams.specs.declared.stop.Stop.TheVariants.{Ended, Refused, TooLong, Spent}
use Rattle.command_streams.specs.declared.stop.OutputForm.{OutputForm}
use Rattle.command_streams.specs.declared.stop.OutputForm.TheVariants.{Frames, Lines}
use Rattle.command_streams.specs.declared.stop.RunFail.{RunFail}
use Rattle.command_streams.specs.declared.stop.RunFail.TheVariants.{ReadFault, WriteFault, NoMemory}
use Rattle.command_streams.specs.Made.{Gives}
use Rattle.command_streams.specs.Reading.{Step, outputs_of, AreSteps, Begins, Reads}

abbrev pub name_of : Why → List ℕ
name_of Truncated = codes "Truncated"
name_of VarintTooLong = codes "VarintTooLong"
name_of BadTag = codes "BadTag"
name_of Group = codes "Group"
name_of BadWireType = codes "BadWireType"
name_of NotUtf8 = codes "NotUtf8"
name_of TooDeep = codes "TooDeep"
name_of TooLarge = codes "TooLarge"

-- what stands before a note: in frames four bytes ff, which no frame begins with
abbrev pub before_note : OutputForm → List ℕ
before_note Frames = 255 ∷ 255 ∷ 255 ∷ 255 ∷ []
before_note Lines = []

-- what a fault of the input adds: the line `refused at AT: WHY`
unfoldable pub note : OutputForm → ℕ → Why → List ℕ
note form at why = before_note form ++ (codes "refused at " ++ (decimal at ++ (codes ": " ++ (name_of why ++ 10 ∷ []))))

-- what follows the outputs
abbrev pub last_words : OutputForm → Stop → List ℕ
last_words form Ended = []
last_words form (Refused at why) = note form at why
last_words form TooLong = []
last_words form Spent = []

abbrev pub IsFrontOf : List ℕ → List ℕ → Type 0
IsFrontOf front whole = (rest : List ℕ) × (front ++ rest ≡ whole)

-- The output is that of these steps with the last words. By them the input, where it is told, is read up to this stop.
pub record IsAnswer {State : Type 0} (form : OutputForm) (gives : Gives State) (start : State) (budget : ℕ) (input : Option (List ℕ)) (output : List ℕ) (stop : Stop) : Type 0 where
  pub steps : List (Step State)
  pub each : AreSteps gives start steps
  pub reads : IfSome input (λ bytes. Reads gives start budget bytes steps stop)
  pub whole : output ≡ outputs_of steps ++ last_words form stop

-- The output is that of these steps. With them the input, where it is told, begins.
pub record IsAnswerSoFar {State : Type 0} (gives : Gives State) (start : State) (budget : ℕ) (input : Option (List ℕ)) (output : List ℕ) : Type 0 where
  pub steps : List (Step State)
  pub each : AreSteps gives start steps
  pub begins : IfSome input (λ bytes. (rest : List ℕ) × Begins gives start budget bytes steps rest)
  pub whole : output ≡ outputs_of steps

-- The output is cut off inside an answer.
abbrev pub IsCutOff : {State : Type 0} → OutputForm → Gives State → State → ℕ → Option (List ℕ) → List ℕ → Type 0
IsCutOff form gives start budget input out = (whole : List ℕ) × IsFrontOf out whole × (IsAnswerSoFar gives start budget input whole ⊎ ((stop : Stop) × IsAnswer form gives start budget input whole stop))

-- the output of a run that ended so
abbrev pub OutputOf : {State : Type 0} → OutputForm → Gives State → State → ℕ → Option (List ℕ) → List ℕ → Result Stop RunFail → Type 0
OutputOf form gives start budget input out (Ok stop) = IsAnswer form gives start budget input out stop
OutputOf form gives start budget input out (Err ReadFault) = IsAnswerSoFar gives start budget input out
OutputOf form gives start budget input out (Err WriteFault) = IsCutOff form gives start budget input out
OutputOf form gives start budget input out (Err NoMemory) = IsAnswerSoFar gives start budget input out

-- A run that ended so added the output of this input to what the sink held.
abbrev pub Answers : {State : Type 0} → OutputForm → Gives State → State → ℕ → Option (List ℕ) → Option (List ℕ) → Option (List ℕ) → Result Stop RunFail → Type 0
Answers form gives start budget input old new ending = (out : List ℕ) × Appends old new out × OutputOf form gives start budget input out ending

abbrev pub status_of : Result Stop RunFail → ℕ
status_of (Ok Ended) = 0
status_of (Ok (Refused at why)) = 1
status_of (Ok Spent) = 9
status_of (Ok TooLong) = 11
status_of (Err ReadFault) = 3
status_of (Err WriteFault) = 4
status_of (Err NoMemory) = 5

-- The status is that of an ending, and what was written is its output.
abbrev pub Framed : {State : Type 0} → OutputForm → Gives State → State → ℕ → Option (List ℕ) → Option (List ℕ) → Option (List ℕ) → ℕ → Type 0
Framed form gives start budget input old new status = (ending : Result Stop RunFail) × (status ≡ status_of ending) × Answers form gives start budget input old new ending

-- For this input, reading of which stops so behind these steps, a run has that stop's status and wrote the whole answer; or a fault of the source, a fault of the
-- sink or want of memory ended it.
abbrev pub EndsBy : {State : Type 0} → OutputForm → List (Step State) → Stop → Option (List ℕ) → Option (List ℕ) → ℕ → Type 0
EndsBy form steps stop old new status = ((status ≡ status_of (Ok stop)) × Appends old new (outputs_of steps ++ last_words form stop)) ⊎ ((status ≡ 3) ⊎ ((status ≡ 4) ⊎ (status ≡ 5)))
