-- How a run of the command ends, by the one reading of its input.
use Rattle.std.proofs.Common.{◌≡◌, ℕ, ◌⊎◌, List, [], Option, None, Some, inl, inr, refl, subst, ◌∙◌, ap}
use Rattle.std.specs.Prelude.{IfSome, IsSomeAnd, IsErrOf, Result, Ok, Err}
use Rattle.std.specs.Io.KnownBytes.{Appends}
use Rattle.std.proofs.KnownBytes.{Keeps-refl}
use Rattle.edge_devices.specs.Faults.{HasRisen}
use Rattle.message_values.specs.declared.report.AgentToServer.{AgentToServer}
use Rattle.command_streams.specs.declared.stop.RunFail.{RunFail}
use Rattle.command_streams.specs.declared.stop.RunFail.TheVariants.{ReadFault, WriteFault, NoMemory}
use Rattle.command_streams.specs.declared.stop.Stop.{Stop}
use Rattle.command_streams.specs.declared.stop.Stop.TheVariants.{Ended, Refused, TooLong, Spent}
use Rattle.command_streams.specs.Output.{status_of}
use Rattle.command_streams.specs.Reading.{Step, state_after}
use Rattle.shard_journals.specs.declared.rows.Row.{Row}
use Rattle.shard_journals.specs.Fleets.{AreJournalsOf}
use Rattle.command_fleet.specs.Blocks.{TakesFewBehind}
use Rattle.command_fleet.specs.Collecting.{FleetWrites, fleet_output}
use Rattle.command_fleet.specs.Outcomes.{AreFramedReports, EndsFleet, FleetEnds, FleetOutcome, ReadsFleet, WritesByStatus}
use Rattle.command_fleet.proofs.Taken.{taken_none}

-- the law that an input is read in one way
abbrev pub ReadsOnce : Type 0
ReadsOnce = (budget : ℕ) (bytes : List ℕ) (a b : List (Step (List AgentToServer))) (stop_a stop_b : Stop)
    → ReadsFleet budget bytes a stop_a → ReadsFleet budget bytes b stop_b → (a ≡ b) × (stop_a ≡ stop_b)

-- a run that was not ended before ended by the reading
ends_by : ReadsOnce → (desks budget : ℕ) (bytes : List ℕ) (steps : List (Step (List AgentToServer))) (stop : Stop) (old new : Option (List ℕ)) (status : ℕ) (ending : Result Stop RunFail)
    → ReadsFleet budget bytes steps stop → status ≡ status_of ending → FleetWrites desks budget (Some bytes) old new ending → EndsFleet desks steps stop old new status
ends_by once desks budget bytes steps stop old new status (Ok end) reads is writes =
    let journals : List (List Row) = writes.0 in
    let read = writes.1.1 in
    let same = once budget bytes read.steps steps end stop read.reads reads in
    inl (
      is ∙ ap (λ (s : Stop). status_of (Ok s)) same.1,
      journals,
      subst (λ (reports : List AgentToServer). AreJournalsOf reports desks journals) (read.all ∙ ap (λ (ss : List (Step (List AgentToServer))). state_after [] ss) same.0) writes.1.2,
      subst (λ (s : Stop). Appends old new (fleet_output journals s)) same.1 writes.2,
    )
ends_by once desks budget bytes steps stop old new status (Err ReadFault) reads is writes = inr (inl is)
ends_by once desks budget bytes steps stop old new status (Err WriteFault) reads is writes = inr (inr (inl is))
ends_by once desks budget bytes steps stop old new status (Err NoMemory) reads is writes = inr (inr (inr is))

ends_exactly : ReadsOnce → (desks budget : ℕ) (input old new : Option (List ℕ)) (status : ℕ) → WritesByStatus desks budget input old new status
    → IfSome input (λ bytes. (steps : List (Step (List AgentToServer))) (stop : Stop) → ReadsFleet budget bytes steps stop → EndsFleet desks steps stop old new status)
ends_exactly once desks budget None old new status runs = tt
ends_exactly once desks budget (Some bytes) old new status runs = λ steps stop reads. ends_by once desks budget bytes steps stop old new status runs.0 reads runs.1 runs.2

is_complete : ReadsOnce → (desks budget : ℕ) (input old new : Option (List ℕ)) (status : ℕ) → WritesByStatus desks budget input old new status
    → IsSomeAnd input (AreFramedReports budget) → (status ≡ 3 → ⊥) → (status ≡ 4 → ⊥) → (status ≡ 0) ⊎ (status ≡ 5)
is_complete once desks budget None old new status runs valid no_read no_write = absurd valid
is_complete once desks budget (Some bytes) old new status runs valid no_read no_write =
    elim (ends_by once desks budget bytes valid.0 Ended old new status runs.0 valid.1 runs.1 runs.2) [
      | inl done ↦ inl done.0
      | inr others ↦ elim others [ inl three ↦ absurd (no_read three) | inr more ↦ elim more [ inl four ↦ absurd (no_write four) | inr five ↦ inr five ] ]
    ]

-- the ending with the status of a read fault
pub read_fault_ending : (ending : Result Stop RunFail) → status_of ending ≡ 3 → IsErrOf ending ReadFault
read_fault_ending (Ok Ended) is = cc
read_fault_ending (Ok (Refused at why)) is = cc
read_fault_ending (Ok TooLong) is = cc
read_fault_ending (Ok Spent) is = cc
read_fault_ending (Err ReadFault) is = refl
read_fault_ending (Err WriteFault) is = cc
read_fault_ending (Err NoMemory) is = cc

-- and that of a write fault
pub write_fault_ending : (ending : Result Stop RunFail) → status_of ending ≡ 4 → IsErrOf ending WriteFault
write_fault_ending (Ok Ended) is = cc
write_fault_ending (Ok (Refused at why)) is = cc
write_fault_ending (Ok TooLong) is = cc
write_fault_ending (Ok Spent) is = cc
write_fault_ending (Err ReadFault) is = cc
write_fault_ending (Err WriteFault) is = refl
write_fault_ending (Err NoMemory) is = cc

pub fleet_outcome : ReadsOnce → (desks budget : ℕ) (before after : FleetEnds) (status : ℕ) → WritesByStatus desks budget before.source.left before.sink.taken after.sink.taken status
    → (status ≡ 3 → HasRisen before.source.faults after.source.faults) → (status ≡ 4 → HasRisen before.sink.faults after.sink.faults)
    → TakesFewBehind budget before.source.left after.source.left
    → FleetOutcome desks budget before after status
fleet_outcome once desks budget before after status runs read_fault write_fault taken = record {
  output = runs;
  exact = ends_exactly once desks budget before.source.left before.sink.taken after.sink.taken status runs;
  complete = λ valid no_read no_write. is_complete once desks budget before.source.left before.sink.taken after.sink.taken status runs valid
      (λ three. no_read (read_fault three))
      (λ four. no_write (write_fault four));
  taken = taken;
}

-- ---- want of memory before anything is read

unread : (desks budget : ℕ) (input old : Option (List ℕ))
    → IfSome input (λ bytes. (steps : List (Step (List AgentToServer))) (stop : Stop) → ReadsFleet budget bytes steps stop → EndsFleet desks steps stop old old 5)
unread desks budget None old = tt
unread desks budget (Some bytes) old = λ steps stop reads. inr (inr (inr refl))

pub none_handled : (desks budget : ℕ) (ends : FleetEnds) → FleetOutcome desks budget ends ends 5
none_handled desks budget ends = record {
  output = (Err NoMemory, refl, inl (Keeps-refl ends.sink.taken));
  exact = unread desks budget ends.source.left ends.sink.taken;
  complete = λ valid no_read no_write. inr refl;
  taken = taken_none budget ends.source.left;
}
