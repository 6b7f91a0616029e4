-- What `check` writes for a stream of reports: of each what it lacks to be full (OpAMP specification, "Agent Status Compression").
use Rattle.std.specs.Prelude.{ℕ, Bool, true, false, List, [], ◌∷◌, ◌++◌, if◌then◌else◌, codes}
use Rattle.std.specs.Fmt.{decimal}
use Rattle.message_values.specs.declared.report.AgentToServer.{AgentToServer}
use Rattle.message_deltas.specs.declared.missing.Missing.{Missing}
use Rattle.message_deltas.specs.Obligations.{is_full, missing_fields}
use Rattle.command_streams.specs.Made.{Gives}
use Rattle.command_frames.specs.Families.{reports}
use Rattle.command_frames.specs.Showing.{Numbers}

-- the name behind a blank, where it is missing
abbrev pub named : Bool → List ℕ → List ℕ
named true name = 32 ∷ name
named false name = []

-- the names of the fields that are missing, in ascending order of their numbers
abbrev pub missing_names : Missing → List ℕ
missing_names missed =
    ((((named missed.agent_description (codes "agent_description")
    ++ named missed.health (codes "health"))
    ++ named missed.effective_config (codes "effective_config"))
    ++ named missed.remote_config_status (codes "remote_config_status"))
    ++ named missed.package_statuses (codes "package_statuses"))
    ++ named missed.available_components (codes "available_components")

abbrev pub verdict : AgentToServer → List ℕ
verdict report = if is_full report then codes " full\n" else codes " lacks" ++ (missing_names (missing_fields report) ++ 10 ∷ [])

-- the line of the report of this number
abbrev pub checked_line : ℕ → AgentToServer → List ℕ
checked_line number report = codes "report " ++ (decimal number ++ verdict report)

abbrev pub Checks : Gives ℕ
Checks = Numbers reports checked_line
