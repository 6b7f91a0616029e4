-- What `simulate` makes of a script.
use Rattle.std.specs.Prelude.{◌≡◌, ℕ, ◌<◌, ◌≤◌, ◌⊎◌, List, [], ◌∷◌, ◌++◌, length, Option, Some, IfSome, Result, Ok, Err, codes}
use Rattle.std.specs.Fmt.{decimal}
use Rattle.std.specs.Io.KnownBytes.{Keeps, Appends}
use Rattle.world_scripts.specs.declared.scripts.TheConstants.{SCRIPT_LIMIT}
use Rattle.world_scripts.specs.declared.lines.Line.{Line}
use Rattle.world_scripts.specs.Cuts.{lines_in}
use Rattle.world_scripts.specs.Scripts.{Says, first_bad_line}
use Rattle.world_lab.specs.Labs.{LabState, AppendsFrontOf, unplayed, played}
use Rattle.world_lab.specs.Transcripts.{transcript_of}
use Rattle.command_scripts.specs.declared.simulate.ScriptFault.{ScriptFault}
use Rattle.command_scripts.specs.declared.simulate.ScriptFault.TheVariants.{BadLine, TooLarge}
use Rattle.command_scripts.specs.declared.simulate.PlayFail.{PlayFail}
use Rattle.command_scripts.specs.declared.simulate.PlayFail.TheVariants.{Refused, ReadFault, WriteFault, NoMemory}

-- Bytes are the script of these lines, or they are none, since at this place they have this fault.
pub data ScriptReading : Type 0 where
  Plays : List Line → ScriptReading
  Fails : ℕ → ScriptFault → ScriptReading

-- The bytes have this reading. That they are too many comes first, and stands where a script must end.
abbrev pub ReadsScript : List ℕ → ScriptReading → Type 0
ReadsScript bytes (Plays lines) = (length bytes ≤ SCRIPT_LIMIT) × Says bytes lines
ReadsScript bytes (Fails at BadLine) = (length bytes ≤ SCRIPT_LIMIT) × (first_bad_line (lines_in bytes) ≡ Some at)
ReadsScript bytes (Fails at TooLarge) = (SCRIPT_LIMIT < length bytes) × (at ≡ SCRIPT_LIMIT)

abbrev pub fault_name : ScriptFault → List ℕ
fault_name BadLine = codes "BadLine"
fault_name TooLarge = codes "TooLarge"

-- the line `refused at AT: WHY`
unfoldable pub script_note : ℕ → ScriptFault → List ℕ
script_note at why = codes "refused at " ++ (decimal at ++ (codes ": " ++ (fault_name why ++ 10 ∷ [])))

-- what is written by a reading
abbrev pub script_output : ScriptReading → List ℕ
script_output (Plays lines) = transcript_of lines
script_output (Fails at why) = script_note at why

abbrev pub script_status : ScriptReading → ℕ
script_status (Plays lines) = 0
script_status (Fails at why) = 1

-- the lab after it
abbrev pub lab_after : ScriptReading → LabState
lab_after (Plays lines) = played lines
lab_after (Fails at why) = unplayed

-- The whole output was written, with the status and the lab that belong to it.
abbrev pub IsWhole : ScriptReading → Option (List ℕ) → Option (List ℕ) → LabState → ℕ → Type 0
IsWhole reading old new lab status = (status ≡ script_status reading) × Appends old new (script_output reading) × (lab ≡ lab_after reading)

-- A run over a script of this reading wrote its whole output; or a fault of the source ended it, nothing was written and the lab is unplayed; or a fault of the sink or want of
-- memory ended it and a front of the output was written.
abbrev pub EndsScript : ScriptReading → Option (List ℕ) → Option (List ℕ) → LabState → ℕ → Type 0
EndsScript reading old new lab status = IsWhole reading old new lab status ⊎ ((status ≡ 3) × Keeps old new × (lab ≡ unplayed) ⊎ ((status ≡ 4) ⊎ (status ≡ 5)) × AppendsFrontOf old new (script_output reading))

-- A run over this input ended as one over a script of its reading, or of some reading where the input isn't told.
abbrev pub Simulates : Option (List ℕ) → Option (List ℕ) → Option (List ℕ) → LabState → ℕ → Type 0
Simulates input old new lab status = (reading : ScriptReading) × IfSome input (λ bytes. ReadsScript bytes reading) × EndsScript reading old new lab status

-- The bytes are a script.
abbrev pub IsScript : List ℕ → Type 0
IsScript bytes = (lines : List Line) × ReadsScript bytes (Plays lines)

-- the status of a run that ended so
abbrev pub status_of_run : Result (Unit {0}) PlayFail → ℕ
status_of_run (Ok done) = 0
status_of_run (Err Refused) = 1
status_of_run (Err ReadFault) = 3
status_of_run (Err WriteFault) = 4
status_of_run (Err NoMemory) = 5
