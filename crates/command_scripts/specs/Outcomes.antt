-- What comes of `simulate` and `storm`: the output, the status, and the lab that is left.
use Rattle.std.specs.Prelude.{◌≡◌, ℕ, ◌⊎◌, IfSome, IsSomeAnd}
use Rattle.std.specs.Io.KnownBytes.{Appends}
use Rattle.edge_devices.specs.Faults.{HasRisen}
use Rattle.edge_devices.specs.Streams.{SinkView, SourceView}
use Rattle.world_lab.specs.Labs.{AppendsFrontOf, LabState, played}
use Rattle.world_lab.specs.Storming.{storm_script}
use Rattle.command_scripts.specs.Simulating.{EndsScript, IsScript, ReadsScript, ScriptReading, Simulates}
use Rattle.command_scripts.specs.Storming.{IsStormStatus, storm_output}
use Rattle.command_scripts.specs.TakingScripts.{TakesAtMost, most_taken}

-- the source, the sink and the lab of a run
pub record ScriptEnds : Type 0 where
  pub source : SourceView
  pub sink : SinkView
  pub lab : LabState

-- `simulate`
pub record SimulateOutcome (before after : ScriptEnds) (status : ℕ) : Type 0 where
  -- The output, the status and the lab are those that the input gives.
  pub output : Simulates before.source.left before.sink.taken after.sink.taken after.lab status
  -- Where the input is a script that is read so, the status is that of the reading, the whole output was written and the lab is as the script leaves it,
  -- unplayed where that was refused; or a fault of the source (3), a fault of the sink (4) or want of memory (5) came before.
  pub exact : IfSome before.source.left (λ bytes. (reading : ScriptReading)
      → ReadsScript bytes reading → EndsScript reading before.sink.taken after.sink.taken after.lab status)
  -- Where the input is a script, and neither the source nor the sink failed, all was done, or memory was wanting.
  pub complete : IsSomeAnd before.source.left IsScript
      → (HasRisen before.source.faults after.source.faults → ⊥)
      → (HasRisen before.sink.faults after.sink.faults → ⊥)
      → (status ≡ 0) ⊎ (status ≡ 5)
  -- Whatever the status is, at most so many bytes were taken of the source as the largest script has, and one block more: 1,114,112.
  pub taken : TakesAtMost most_taken before.source.left after.source.left

-- the sink and the lab of a run
pub record StormEnds : Type 0 where
  pub sink : SinkView
  pub lab : LabState

-- `storm`
pub record StormOutcome (start count : ℕ) (before after : StormEnds) (status : ℕ) : Type 0 where
  -- The summary was written of the script of so many lines that is drawn from the start.
  pub done : status ≡ 0 → Appends before.sink.taken after.sink.taken (storm_output start count)
  -- The sink took a front of its line only; in this call the sink's count rose.
  pub cut : status ≡ 4 → AppendsFrontOf before.sink.taken after.sink.taken (storm_output start count)
  pub write_fault : status ≡ 4 → HasRisen before.sink.faults after.sink.faults
  -- In both cases the lab is left as by a simulation of that script.
  pub left : (status ≡ 0) ⊎ (status ≡ 4) → after.lab ≡ played (storm_script start count)
  -- Where the sink didn't fail, all was done, or memory was wanting.
  pub complete : (HasRisen before.sink.faults after.sink.faults → ⊥) → (status ≡ 0) ⊎ (status ≡ 5)
  -- No other status comes.
  pub statuses : IsStormStatus status
