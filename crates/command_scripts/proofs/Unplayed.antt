-- Want of memory before anything is read or played.
use Rattle.std.proofs.Common.{◌≡◌, ℕ, ◌⊎◌, inl, inr, List, Option, None, Some, refl, arith}
use Rattle.std.specs.Prelude.{IfSome}
use Rattle.world_lab.specs.Labs.{LabState, unplayed}
use Rattle.command_scripts.specs.declared.simulate.PlayFail.TheVariants as play
use Rattle.command_scripts.specs.Outcomes.{ScriptEnds, SimulateOutcome, StormEnds, StormOutcome}
use Rattle.command_scripts.specs.Simulating.{ScriptReading, ReadsScript, EndsScript, script_output}
use Rattle.command_scripts.specs.TakingScripts.{most_taken}
use Rattle.command_scripts.proofs.Scripts.{SomeReading, no_front, untaken}
use Rattle.command_scripts.proofs.Taken.{taken_none}

script_ends_unread : (input old : Option (List ℕ)) (lab : LabState) → IfSome input (λ bytes. (reading : ScriptReading) → ReadsScript bytes reading → EndsScript reading old old lab 5)
script_ends_unread None old lab = tt
script_ends_unread (Some bytes) old lab = λ reading reads. inr (inr (inr refl, no_front old (script_output reading)))

pub none_simulated : SomeReading → (ends : ScriptEnds) → ends.lab ≡ unplayed → SimulateOutcome ends ends 5
none_simulated some_of ends still = record {
  output = untaken some_of (Unit {0}) play.NoMemory ends.source.left ends.sink.taken ends.lab still tt;
  exact = script_ends_unread ends.source.left ends.sink.taken ends.lab;
  complete = λ valid no_read no_write. inr refl;
  taken = taken_none most_taken ends.source.left;
}

pub none_stormed : (start count : ℕ) (ends : StormEnds) → StormOutcome start count ends ends 5
none_stormed start count ends = record {
  done = λ is. absurd (omega (arith, is));
  cut = λ is. absurd (omega (arith, is));
  write_fault = λ is. absurd (omega (arith, is));
  left = λ either. elim either [ inl is ↦ absurd (omega (arith, is)) | inr is ↦ absurd (omega (arith, is)) ];
  complete = λ no_write. inr refl;
  statuses = inr (inr refl);
}
