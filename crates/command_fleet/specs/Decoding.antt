-- Reports that were decoded from frames of a block.
use Rattle.std.specs.Prelude.{◌≡◌, ℕ, ◌+◌, ◌<◌, ◌≤◌, List, ◌++◌, length, drop, Option, None, Some, Result, IfOk, slice_index_or}
use Rattle.plain_values.specs.declared.memory.NoMemory.{NoMemory}
use Rattle.message_values.specs.declared.report.AgentToServer.{AgentToServer}
use Rattle.command_streams.specs.Held.{HeldState}
use Rattle.command_streams.specs.Progress.{Passes}
use Rattle.command_fleet.specs.declared.decoding.Decoded.{Decoded}
use Rattle.command_fleet.specs.Reading.{Collects}

-- what stands in a block from a place on, as if it were held
abbrev pub held_from : ℕ → List ℕ → HeldState
held_from at block = record { at = at; bytes = drop at block; room = 0 }

-- The frame at a place is passed over up to the next one. Whatever reports there were before, its report stands behind them.
abbrev pub IsDecodedNext : List ℕ → ℕ → List AgentToServer → List AgentToServer → Option ℕ → Type 0
IsDecodedNext block at reports reports' None = reports' ≡ reports
IsDecodedNext block at reports reports' (Some next) =
    (at < next) × (next ≤ length block)
    × ((start : List AgentToServer) → Passes Collects (start ++ reports) (start ++ reports') (held_from at block) (held_from next block))

-- They are the reports of frames of the block that follow one another from a place on. Whatever reports there were before, these stand behind them.
pub record IsDecodedIn (block : List ℕ) (part : Decoded) : Type 0 where
  pub within : part.from + part.len ≤ length block
  pub passes : (start : List AgentToServer) → Passes Collects start (start ++ part.reports.items) (held_from part.from block) (held_from (part.from + part.len) block)

-- each of them, where there was memory for it
abbrev pub AreDecodedIn : List ℕ → List (Result Decoded NoMemory) → Type 0
AreDecodedIn block parts = (place : ℕ) (part : Result Decoded NoMemory) → place < length parts → IfOk (slice_index_or parts place part) (IsDecodedIn block)
