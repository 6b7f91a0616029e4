-- What comes of the command `fleet`: its output, its status, and what of its input was read.
use Rattle.std.specs.Prelude.{◌≡◌, ℕ, ◌⊎◌, List, [], Option, Result, Ok, IfSome, IsSomeAnd}
use Rattle.std.specs.Io.KnownBytes.{Appends}
use Rattle.edge_devices.specs.Faults.{HasRisen}
use Rattle.edge_devices.specs.Streams.{SinkView, SourceView}
use Rattle.message_values.specs.declared.report.AgentToServer.{AgentToServer}
use Rattle.command_streams.specs.declared.stop.Stop.{Stop}
use Rattle.command_streams.specs.declared.stop.Stop.TheVariants.{Ended}
use Rattle.command_streams.specs.declared.stop.RunFail.{RunFail}
use Rattle.command_streams.specs.Reading.{Step, state_after, Reads}
use Rattle.command_streams.specs.Output.{status_of}
use Rattle.shard_journals.specs.declared.rows.Row.{Row}
use Rattle.shard_journals.specs.Fleets.{AreJournalsOf}
use Rattle.command_fleet.specs.Blocks.{TakesFewBehind}
use Rattle.command_fleet.specs.Reading.{Collects}
use Rattle.command_fleet.specs.Collecting.{FleetWrites, fleet_output}

-- Within the budget the bytes are read as the reports of these steps, up to this stop.
abbrev pub ReadsFleet : ℕ → List ℕ → List (Step (List AgentToServer)) → Stop → Type 0
ReadsFleet budget bytes steps stop = Reads Collects [] budget bytes steps stop

-- The bytes are frames of reports, fewer than the budget.
abbrev pub AreFramedReports : ℕ → List ℕ → Type 0
AreFramedReports budget bytes = (steps : List (Step (List AgentToServer))) × ReadsFleet budget bytes steps Ended

-- The status is that of an ending, and what was added to the output is what a run with it writes of this input.
abbrev pub WritesByStatus : ℕ → ℕ → Option (List ℕ) → Option (List ℕ) → Option (List ℕ) → ℕ → Type 0
WritesByStatus desks budget input old new status = (ending : Result Stop RunFail) × (status ≡ status_of ending) × FleetWrites desks budget input old new ending

-- For an input that is read as the reports of these steps a run has the stop's status and wrote all of journals of them; or a fault of the source, a fault of the
-- sink or want of memory ended it.
abbrev pub EndsFleet : ℕ → List (Step (List AgentToServer)) → Stop → Option (List ℕ) → Option (List ℕ) → ℕ → Type 0
EndsFleet desks steps stop old new status =
    ((status ≡ status_of (Ok stop)) × (journals : List (List Row)) × AreJournalsOf (state_after [] steps) desks journals × Appends old new (fleet_output journals stop))
    ⊎ ((status ≡ 3) ⊎ ((status ≡ 4) ⊎ (status ≡ 5)))

-- the source and the sink of a run
pub record FleetEnds : Type 0 where
  pub source : SourceView
  pub sink : SinkView

pub record FleetOutcome (desks budget : ℕ) (before after : FleetEnds) (status : ℕ) : Type 0 where
  -- The output and the status are those of a run over the input: what is written is the frames of four journals of its reports, and a note where reading
  -- stopped at a fault.
  pub output : WritesByStatus desks budget before.source.left before.sink.taken after.sink.taken status
  -- Where reading of the input stops so, the status is that of this stop and all was written of journals of the reports before it; or a fault of the source
  -- (3), a fault of the sink (4) or want of memory (5) came before.
  pub exact : IfSome before.source.left (λ bytes. (steps : List (Step (List AgentToServer))) (stop : Stop)
      → ReadsFleet budget bytes steps stop → EndsFleet desks steps stop before.sink.taken after.sink.taken status)
  -- Where the input is frames of reports, fewer than the budget, and neither the source nor the sink failed, all was done, or memory was wanting.
  pub complete : IsSomeAnd before.source.left (AreFramedReports budget)
      → (HasRisen before.source.faults after.source.faults → ⊥)
      → (HasRisen before.sink.faults after.sink.faults → ⊥)
      → (status ≡ 0) ⊎ (status ≡ 5)
  -- Whatever the status is, what was taken of the source is frames of reports, and two blocks and a frame behind them at most.
  pub taken : TakesFewBehind budget before.source.left after.source.left
