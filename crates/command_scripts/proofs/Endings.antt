-- How a run over a script ends, by the one reading of its input.
use Rattle.std.proofs.Common.{◌≡◌, ℕ, ◌⊎◌, List, Option, None, Some, inl, inr, refl, subst}
use Rattle.std.specs.Prelude.{IfSome, IsSomeAnd, IsErrOf, Result, Ok, Err}
use Rattle.edge_devices.specs.Faults.{HasRisen}
use Rattle.world_lab.specs.Labs.{LabState}
use Rattle.command_scripts.specs.declared.simulate.PlayFail.{PlayFail}
use Rattle.command_scripts.specs.declared.simulate.PlayFail.TheVariants as play
use Rattle.command_scripts.specs.Simulating.{EndsScript, IsScript, Plays, ReadsScript, ScriptReading, Simulates, status_of_run}
use Rattle.command_scripts.specs.Storming.{IsStormStatus}
use Rattle.command_scripts.specs.TakingScripts.{TakesAtMost, most_taken}
use Rattle.command_scripts.specs.Outcomes.{ScriptEnds, SimulateOutcome}

-- each list of bytes has one reading as a script at most
abbrev pub OneScriptReading : Type 0
OneScriptReading = (bytes : List ℕ) (a b : ScriptReading) → ReadsScript bytes a → ReadsScript bytes b → a ≡ b

pub ends_script_exactly : OneScriptReading → (input old new : Option (List ℕ)) (lab : LabState) (status : ℕ) → Simulates input old new lab status
    → IfSome input (λ bytes. (reading : ScriptReading) → ReadsScript bytes reading → EndsScript reading old new lab status)
ends_script_exactly one None old new lab status runs = tt
ends_script_exactly one (Some bytes) old new lab status runs = λ reading reads. subst (λ (r : ScriptReading). EndsScript r old new lab status) (one bytes runs.0 reading runs.1 reads) runs.2

script_is_complete : OneScriptReading → (input old new : Option (List ℕ)) (lab : LabState) (status : ℕ) → Simulates input old new lab status
    → IsSomeAnd input IsScript → (status ≡ 3 → ⊥) → (status ≡ 4 → ⊥) → (status ≡ 0) ⊎ (status ≡ 5)
script_is_complete one None old new lab status runs valid no_read no_write = absurd valid
script_is_complete one (Some bytes) old new lab status runs valid no_read no_write =
    elim (ends_script_exactly one (Some bytes) old new lab status runs (Plays valid.0) valid.1) [
      | inl done ↦ inl done.0
      | inr others ↦ elim others [ inl three ↦ absurd (no_read three.0) | inr more ↦ elim more.0 [ inl four ↦ absurd (no_write four) | inr five ↦ inr five ] ]
    ]

-- the run over a script with the status of a read fault
pub read_fault_run : (ending : Result (Unit {0}) PlayFail) → status_of_run ending ≡ 3 → IsErrOf ending play.ReadFault
read_fault_run (Ok done) is = cc
read_fault_run (Err play.Refused) is = cc
read_fault_run (Err play.ReadFault) is = refl
read_fault_run (Err play.WriteFault) is = cc
read_fault_run (Err play.NoMemory) is = cc

-- ---- what comes of `simulate`

pub simulate_outcome : OneScriptReading → (before after : ScriptEnds) (status : ℕ) → Simulates before.source.left before.sink.taken after.sink.taken after.lab status
    → (status ≡ 3 → HasRisen before.source.faults after.source.faults) → (status ≡ 4 → HasRisen before.sink.faults after.sink.faults)
    → TakesAtMost most_taken before.source.left after.source.left
    → SimulateOutcome before after status
simulate_outcome one before after status runs read_fault write_fault taken = record {
  output = runs;
  exact = ends_script_exactly one before.source.left before.sink.taken after.sink.taken after.lab status runs;
  complete = λ valid no_read no_write. script_is_complete one before.source.left before.sink.taken after.sink.taken after.lab status runs valid
      (λ three. no_read (read_fault three))
      (λ four. no_write (write_fault four));
  taken = taken;
}

-- ---- what comes of `storm`

pub storm_done : (n : ℕ) → IsStormStatus n → (n ≡ 4 → ⊥) → (n ≡ 0) ⊎ (n ≡ 5)
storm_done n (inl is) no_write = inl is
storm_done n (inr (inl is)) no_write = absurd (no_write is)
storm_done n (inr (inr is)) no_write = inr is
