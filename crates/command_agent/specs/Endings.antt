-- How the end of a run is told.
use Rattle.std.specs.Prelude.{◌≡◌, ◌⊎◌, ℕ, List, take, Option, None, Some, Result, Ok, Err}
use Rattle.std.specs.Io.KnownBytes.{Appends}
use Rattle.command_agent.specs.declared.endings.Ending.{Ending}
use Rattle.command_agent.specs.declared.endings.Ending.TheVariants as endings
use Rattle.command_agent.specs.declared.lines.Line.{Line}
use Rattle.command_agent.specs.declared.lines.Line.TheVariants as lines
use Rattle.command_agent.specs.declared.status.AgentStatus.{AgentStatus}
use Rattle.command_agent.specs.declared.status.AgentStatus.TheVariants as statuses
use Rattle.agent_rounds.specs.declared.ends.AgentEnd.{AgentEnd}
use Rattle.agent_rounds.specs.declared.ends.AgentEnd.TheVariants as ends
use Rattle.command_agent.specs.declared.starting.StartFail.{StartFail}
use Rattle.command_agent.specs.declared.starting.StartFail.TheVariants as starts
use Rattle.command_agent.specs.Lines.{text_of}

-- the line that tells it, of a run of so many rounds at most
abbrev pub line_of : ℕ → Ending → Option Line
line_of rounds (endings.Restarted round) = Some (lines.Restart round)
line_of rounds endings.RoundsSpent = Some (lines.Rounds rounds)
line_of rounds (endings.Damaged slot) = Some (lines.Damaged slot)
line_of rounds endings.StoreFault = None
line_of rounds endings.OutsideFault = None
line_of rounds endings.NumbersSpent = None
line_of rounds endings.TooLarge = None
line_of rounds endings.NoMemory = None

-- its status
abbrev pub status_for : Ending → AgentStatus
status_for (endings.Restarted round) = statuses.Restarted
status_for endings.RoundsSpent = statuses.RoundsSpent
status_for (endings.Damaged slot) = statuses.Damaged
status_for endings.StoreFault = statuses.StoreFault
status_for endings.OutsideFault = statuses.OutsideFault
status_for endings.NumbersSpent = statuses.NumbersSpent
status_for endings.TooLarge = statuses.TooLarge
status_for endings.NoMemory = statuses.NoMemory

-- Without a line nothing is written. A line is written, and then the status is that of the ending; or the sink takes a front of it only, or memory is
-- wanting and it takes nothing.
abbrev pub TellsBy : Option Line → AgentStatus → Option (List ℕ) → Option (List ℕ) → AgentStatus → Type 0
TellsBy None done old new status = (status ≡ done) × (new ≡ old)
TellsBy (Some line) done old new status =
    ((status ≡ done) × Appends old new (text_of line))
    ⊎ (((status ≡ statuses.WriteFault) × ((k : ℕ) × Appends old new (take k (text_of line))))
    ⊎ ((status ≡ statuses.NoMemory) × (new ≡ old)))

-- The ending of a run of so many rounds at most is told with this status.
abbrev pub Tells : ℕ → Ending → Option (List ℕ) → Option (List ℕ) → AgentStatus → Type 0
Tells rounds ending old new status = TellsBy (line_of rounds ending) (status_for ending) old new status

-- with these statuses nothing is written
abbrev pub IsSilent : AgentStatus → Type 0
IsSilent statuses.NoMemory = Unit {0}
IsSilent statuses.StoreFault = Unit {0}
IsSilent statuses.OutsideFault = Unit {0}
IsSilent statuses.NumbersSpent = Unit {0}
IsSilent statuses.TooLarge = Unit {0}
IsSilent statuses.Restarted = ⊥
IsSilent statuses.RoundsSpent = ⊥
IsSilent statuses.Damaged = ⊥
IsSilent statuses.WriteFault = ⊥

-- how rounds that ended so end a run
abbrev pub ending_of : Result ℕ AgentEnd → Ending
ending_of (Ok round) = endings.Restarted round
ending_of (Err ends.StoreFault) = endings.StoreFault
ending_of (Err ends.FolderFault) = endings.OutsideFault
ending_of (Err ends.ClockFault) = endings.OutsideFault
ending_of (Err ends.RoundsSpent) = endings.RoundsSpent
ending_of (Err ends.NumbersSpent) = endings.NumbersSpent
ending_of (Err ends.TooLarge) = endings.TooLarge
ending_of (Err ends.NoMemory) = endings.NoMemory

-- how a run ends whose agent didn't start
abbrev pub ending_without : StartFail → Ending
ending_without starts.StoreFault = endings.StoreFault
ending_without (starts.Damaged slot) = endings.Damaged slot
ending_without starts.EntropyFault = endings.OutsideFault
ending_without starts.NoMemory = endings.NoMemory
