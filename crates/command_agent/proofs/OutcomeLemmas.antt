-- What comes of `agent`, by what its run promises.
use Rattle.std.proofs.Common.{◌≡◌, ◌⊎◌, ℕ, List, Option, inl, inr, refl, ap, arith}
use Rattle.std.specs.Prelude.{Ok, IsTrue}
use Rattle.std.specs.Io.KnownBytes.{Appends}
use Rattle.message_values.specs.declared.custom.CustomMessage.{CustomMessage}
use Rattle.edge_devices.specs.Disks.{disk_bytes}
use Rattle.edge_devices.specs.Faults.{HasRisen}
use Rattle.agent_store.specs.Slots as slots
use Rattle.agent_rules.specs.Codec.{codec}
use Rattle.command_words.specs.declared.commands.AgentOptions.{AgentOptions}
use Rattle.command_agent.specs.declared.endings.Ending.{Ending}
use Rattle.command_agent.specs.declared.lines.Line.TheVariants as lines
use Rattle.command_agent.specs.declared.status.AgentStatus.{AgentStatus}
use Rattle.command_agent.specs.declared.status.AgentStatus.TheVariants as statuses
use Rattle.command_agent.specs.Endings.{IsSilent, Tells}
use Rattle.command_agent.specs.Lines.{text_of}
use Rattle.command_agent.specs.Outcomes.{AgentEnds, AgentOutcome}
use Rattle.command_agent.specs.Running.{AgentRuns, DoesAllRounds, EndsSo, FailsOutside, RunsOutOfNumbers, RunsOutOfRoom}
use Rattle.command_agent.specs.Starting.{FindsDamage, store_layout}
use Rattle.command_agent.specs.Statuses.{IsAgentStatus, IsSilentStatus, status_of}
use Rattle.command_agent.proofs.ToldLemmas.{numbers_ending, size_ending, spent_ending}

-- ---- statuses by their numbers

restarted_at : (s : AgentStatus) → status_of s ≡ 0 → s ≡ statuses.Restarted
restarted_at statuses.Restarted is = refl
restarted_at statuses.WriteFault is = cc
restarted_at statuses.NoMemory is = cc
restarted_at statuses.StoreFault is = cc
restarted_at statuses.Damaged is = cc
restarted_at statuses.OutsideFault is = cc
restarted_at statuses.RoundsSpent is = cc
restarted_at statuses.NumbersSpent is = cc
restarted_at statuses.TooLarge is = cc

pub write_fault_at : (s : AgentStatus) → status_of s ≡ 4 → s ≡ statuses.WriteFault
write_fault_at statuses.Restarted is = cc
write_fault_at statuses.WriteFault is = refl
write_fault_at statuses.NoMemory is = cc
write_fault_at statuses.StoreFault is = cc
write_fault_at statuses.Damaged is = cc
write_fault_at statuses.OutsideFault is = cc
write_fault_at statuses.RoundsSpent is = cc
write_fault_at statuses.NumbersSpent is = cc
write_fault_at statuses.TooLarge is = cc

pub store_fault_at : (s : AgentStatus) → status_of s ≡ 6 → s ≡ statuses.StoreFault
store_fault_at statuses.Restarted is = cc
store_fault_at statuses.WriteFault is = cc
store_fault_at statuses.NoMemory is = cc
store_fault_at statuses.StoreFault is = refl
store_fault_at statuses.Damaged is = cc
store_fault_at statuses.OutsideFault is = cc
store_fault_at statuses.RoundsSpent is = cc
store_fault_at statuses.NumbersSpent is = cc
store_fault_at statuses.TooLarge is = cc

damaged_at : (s : AgentStatus) → status_of s ≡ 7 → s ≡ statuses.Damaged
damaged_at statuses.Restarted is = cc
damaged_at statuses.WriteFault is = cc
damaged_at statuses.NoMemory is = cc
damaged_at statuses.StoreFault is = cc
damaged_at statuses.Damaged is = refl
damaged_at statuses.OutsideFault is = cc
damaged_at statuses.RoundsSpent is = cc
damaged_at statuses.NumbersSpent is = cc
damaged_at statuses.TooLarge is = cc

pub outside_fault_at : (s : AgentStatus) → status_of s ≡ 8 → s ≡ statuses.OutsideFault
outside_fault_at statuses.Restarted is = cc
outside_fault_at statuses.WriteFault is = cc
outside_fault_at statuses.NoMemory is = cc
outside_fault_at statuses.StoreFault is = cc
outside_fault_at statuses.Damaged is = cc
outside_fault_at statuses.OutsideFault is = refl
outside_fault_at statuses.RoundsSpent is = cc
outside_fault_at statuses.NumbersSpent is = cc
outside_fault_at statuses.TooLarge is = cc

spent_at : (s : AgentStatus) → status_of s ≡ 9 → s ≡ statuses.RoundsSpent
spent_at statuses.Restarted is = cc
spent_at statuses.WriteFault is = cc
spent_at statuses.NoMemory is = cc
spent_at statuses.StoreFault is = cc
spent_at statuses.Damaged is = cc
spent_at statuses.OutsideFault is = cc
spent_at statuses.RoundsSpent is = refl
spent_at statuses.NumbersSpent is = cc
spent_at statuses.TooLarge is = cc

numbers_spent_at : (s : AgentStatus) → status_of s ≡ 10 → s ≡ statuses.NumbersSpent
numbers_spent_at statuses.Restarted is = cc
numbers_spent_at statuses.WriteFault is = cc
numbers_spent_at statuses.NoMemory is = cc
numbers_spent_at statuses.StoreFault is = cc
numbers_spent_at statuses.Damaged is = cc
numbers_spent_at statuses.OutsideFault is = cc
numbers_spent_at statuses.RoundsSpent is = cc
numbers_spent_at statuses.NumbersSpent is = refl
numbers_spent_at statuses.TooLarge is = cc

too_large_at : (s : AgentStatus) → status_of s ≡ 11 → s ≡ statuses.TooLarge
too_large_at statuses.Restarted is = cc
too_large_at statuses.WriteFault is = cc
too_large_at statuses.NoMemory is = cc
too_large_at statuses.StoreFault is = cc
too_large_at statuses.Damaged is = cc
too_large_at statuses.OutsideFault is = cc
too_large_at statuses.RoundsSpent is = cc
too_large_at statuses.NumbersSpent is = cc
too_large_at statuses.TooLarge is = refl

-- of a status that writes nothing
pub silent_at : (s : AgentStatus) → IsSilentStatus (status_of s) → IsSilent s
silent_at statuses.Restarted is = elim is [ inl five ↦ absurd (omega (arith, five)) | inr more ↦ elim more [ inl six ↦ absurd (omega (arith, six)) | inr more ↦ elim more [ inl eight ↦ absurd (omega (arith, eight)) | inr more ↦ elim more [ inl ten ↦ absurd (omega (arith, ten)) | inr eleven ↦ absurd (omega (arith, eleven)) ] ] ] ]
silent_at statuses.WriteFault is = elim is [ inl five ↦ absurd (omega (arith, five)) | inr more ↦ elim more [ inl six ↦ absurd (omega (arith, six)) | inr more ↦ elim more [ inl eight ↦ absurd (omega (arith, eight)) | inr more ↦ elim more [ inl ten ↦ absurd (omega (arith, ten)) | inr eleven ↦ absurd (omega (arith, eleven)) ] ] ] ]
silent_at statuses.NoMemory is = tt
silent_at statuses.StoreFault is = tt
silent_at statuses.Damaged is = elim is [ inl five ↦ absurd (omega (arith, five)) | inr more ↦ elim more [ inl six ↦ absurd (omega (arith, six)) | inr more ↦ elim more [ inl eight ↦ absurd (omega (arith, eight)) | inr more ↦ elim more [ inl ten ↦ absurd (omega (arith, ten)) | inr eleven ↦ absurd (omega (arith, eleven)) ] ] ] ]
silent_at statuses.OutsideFault is = tt
silent_at statuses.RoundsSpent is = elim is [ inl five ↦ absurd (omega (arith, five)) | inr more ↦ elim more [ inl six ↦ absurd (omega (arith, six)) | inr more ↦ elim more [ inl eight ↦ absurd (omega (arith, eight)) | inr more ↦ elim more [ inl ten ↦ absurd (omega (arith, ten)) | inr eleven ↦ absurd (omega (arith, eleven)) ] ] ] ]
silent_at statuses.NumbersSpent is = tt
silent_at statuses.TooLarge is = tt

-- What a run of an agent promises.
pub record AgentRun (names : List (List ℕ)) (answers : CustomMessage → Option CustomMessage → Type 0) (options : AgentOptions) (before after : AgentEnds) (told : AgentStatus) : Type 0 where
  pub ended : (ending : Ending) × EndsSo names answers options before.around after.around ending
      × Tells options.rounds ending before.sink.taken after.sink.taken told
  pub restarted : told ≡ statuses.Restarted → (round : ℕ) × AgentRuns names answers options before.around after.around (Ok round)
      × Appends before.sink.taken after.sink.taken (text_of (lines.Restart round))
  pub rounds_spent : told ≡ statuses.RoundsSpent → DoesAllRounds names answers options before.around after.around
      × Appends before.sink.taken after.sink.taken (text_of (lines.Rounds options.rounds))
  pub damaged : told ≡ statuses.Damaged → (slot : ℕ) × FindsDamage before.around.disk after.around.disk slot × Appends before.sink.taken after.sink.taken (text_of (lines.Damaged slot))
  pub damage_told : (slot : ℕ) → IsTrue before.around.disk.told → slots.reading codec store_layout (disk_bytes before.around.disk) ≡ slots.Damaged slot
      → (told ≡ statuses.Damaged) ⊎ ((told ≡ statuses.StoreFault) ⊎ ((told ≡ statuses.NoMemory) ⊎ (told ≡ statuses.WriteFault)))
  pub numbers_spent : told ≡ statuses.NumbersSpent → RunsOutOfNumbers names answers options before.around after.around
  pub too_large : told ≡ statuses.TooLarge → RunsOutOfRoom names answers options before.around after.around
  pub write_fault : told ≡ statuses.WriteFault → HasRisen before.sink.faults after.sink.faults
  pub store_fault : told ≡ statuses.StoreFault → HasRisen before.around.disk.faults after.around.disk.faults
  pub outside_fault : told ≡ statuses.OutsideFault → FailsOutside names answers options before.around after.around

code_of : (s t : AgentStatus) → s ≡ t → status_of s ≡ status_of t
code_of s t same = ap status_of same

module _ (names : List (List ℕ)) (answers : CustomMessage → Option CustomMessage → Type 0) (options : AgentOptions) (before after : AgentEnds) where
  damage_code : (told : AgentStatus) → (told ≡ statuses.Damaged) ⊎ ((told ≡ statuses.StoreFault) ⊎ ((told ≡ statuses.NoMemory) ⊎ (told ≡ statuses.WriteFault)))
      → (status_of told ≡ 7) ⊎ ((status_of told ≡ 6) ⊎ ((status_of told ≡ 5) ⊎ (status_of told ≡ 4)))
  damage_code told (inl is) = inl (code_of told statuses.Damaged is)
  damage_code told (inr (inl is)) = inr (inl (code_of told statuses.StoreFault is))
  damage_code told (inr (inr (inl is))) = inr (inr (inl (code_of told statuses.NoMemory is)))
  damage_code told (inr (inr (inr is))) = inr (inr (inr (code_of told statuses.WriteFault is)))

  spent_code : (told : AgentStatus) → (told ≡ statuses.RoundsSpent) ⊎ (told ≡ statuses.WriteFault) → (status_of told ≡ 9) ⊎ (status_of told ≡ 4)
  spent_code told (inl is) = inl (code_of told statuses.RoundsSpent is)
  spent_code told (inr is) = inr (code_of told statuses.WriteFault is)

  room_code : (told : AgentStatus) → (told ≡ statuses.TooLarge) ⊎ ((told ≡ statuses.OutsideFault) ⊎ ((told ≡ statuses.StoreFault) ⊎ (told ≡ statuses.NoMemory)))
      → (status_of told ≡ 11) ⊎ ((status_of told ≡ 8) ⊎ ((status_of told ≡ 6) ⊎ (status_of told ≡ 5)))
  room_code told (inl is) = inl (code_of told statuses.TooLarge is)
  room_code told (inr (inl is)) = inr (inl (code_of told statuses.OutsideFault is))
  room_code told (inr (inr (inl is))) = inr (inr (inl (code_of told statuses.StoreFault is)))
  room_code told (inr (inr (inr is))) = inr (inr (inr (code_of told statuses.NoMemory is)))

  size_code : (told : AgentStatus) (Risen : Type 0) → (told ≡ statuses.TooLarge) ⊎ ((told ≡ statuses.OutsideFault) ⊎ ((told ≡ statuses.StoreFault) ⊎ ((told ≡ statuses.NoMemory) ⊎ Risen)))
      → (status_of told ≡ 11) ⊎ ((status_of told ≡ 8) ⊎ ((status_of told ≡ 6) ⊎ ((status_of told ≡ 5) ⊎ Risen)))
  size_code told Risen (inl is) = inl (code_of told statuses.TooLarge is)
  size_code told Risen (inr (inl is)) = inr (inl (code_of told statuses.OutsideFault is))
  size_code told Risen (inr (inr (inl is))) = inr (inr (inl (code_of told statuses.StoreFault is)))
  size_code told Risen (inr (inr (inr (inl is)))) = inr (inr (inr (inl (code_of told statuses.NoMemory is))))
  size_code told Risen (inr (inr (inr (inr risen)))) = inr (inr (inr (inr risen)))

  numbers_code : (told : AgentStatus)
      → (told ≡ statuses.NumbersSpent) ⊎ ((told ≡ statuses.TooLarge) ⊎ ((told ≡ statuses.OutsideFault) ⊎ ((told ≡ statuses.StoreFault) ⊎ (told ≡ statuses.NoMemory))))
      → (status_of told ≡ 10) ⊎ ((status_of told ≡ 11) ⊎ ((status_of told ≡ 8) ⊎ ((status_of told ≡ 6) ⊎ (status_of told ≡ 5))))
  numbers_code told (inl is) = inl (code_of told statuses.NumbersSpent is)
  numbers_code told (inr other) = inr (room_code told other)

  -- what failed is none of these
  fails_not : FailsOutside names answers options before.around after.around
      → (HasRisen before.around.folder.faults after.around.folder.faults → ⊥) → (HasRisen before.around.clock.faults after.around.clock.faults → ⊥) → (HasRisen before.around.entropy.faults after.around.entropy.faults → ⊥) → ⊥
  fails_not (inl drawn) no_folder no_clock no_entropy = no_entropy drawn.1
  fails_not (inr (inl settled)) no_folder no_clock no_entropy = no_folder settled.1
  fails_not (inr (inr waited)) no_folder no_clock no_entropy = no_clock waited.1

  others : (told : AgentStatus) → (told ≡ statuses.WriteFault → ⊥) → (told ≡ statuses.StoreFault → ⊥) → (told ≡ statuses.OutsideFault → ⊥)
      → (status_of told ≡ 7 → ⊥) → (status_of told ≡ 9 → ⊥) → (status_of told ≡ 10 → ⊥) → (status_of told ≡ 11 → ⊥) → (status_of told ≡ 0) ⊎ (status_of told ≡ 5)
  others statuses.Restarted no_write no_store no_outside sound left numbers small = inl refl
  others statuses.WriteFault no_write no_store no_outside sound left numbers small = absurd (no_write refl)
  others statuses.NoMemory no_write no_store no_outside sound left numbers small = inr refl
  others statuses.StoreFault no_write no_store no_outside sound left numbers small = absurd (no_store refl)
  others statuses.Damaged no_write no_store no_outside sound left numbers small = absurd (sound refl)
  others statuses.OutsideFault no_write no_store no_outside sound left numbers small = absurd (no_outside refl)
  others statuses.RoundsSpent no_write no_store no_outside sound left numbers small = absurd (left refl)
  others statuses.NumbersSpent no_write no_store no_outside sound left numbers small = absurd (numbers refl)
  others statuses.TooLarge no_write no_store no_outside sound left numbers small = absurd (small refl)

  statuses_of : (told : AgentStatus) → IsAgentStatus (status_of told)
  statuses_of statuses.Restarted = inl refl
  statuses_of statuses.WriteFault = inr (inl refl)
  statuses_of statuses.NoMemory = inr (inr (inl refl))
  statuses_of statuses.StoreFault = inr (inr (inr (inl refl)))
  statuses_of statuses.Damaged = inr (inr (inr (inr (inl refl))))
  statuses_of statuses.OutsideFault = inr (inr (inr (inr (inr (inl refl)))))
  statuses_of statuses.RoundsSpent = inr (inr (inr (inr (inr (inr (inl refl))))))
  statuses_of statuses.NumbersSpent = inr (inr (inr (inr (inr (inr (inr (inl refl)))))))
  statuses_of statuses.TooLarge = inr (inr (inr (inr (inr (inr (inr (inr refl)))))))

  pub agent_outcome : (told : AgentStatus) → AgentRun names answers options before after told → AgentOutcome names answers options before after (status_of told)
  agent_outcome told run = record {
    ended = (run.ended.0, told, run.ended.1, run.ended.2, refl);
    restarted = λ is. run.restarted (restarted_at told is);
    write_fault = λ is. run.write_fault (write_fault_at told is);
    store_fault = λ is. run.store_fault (store_fault_at told is);
    damaged = λ is. run.damaged (damaged_at told is);
    damage_told = λ slot tells found. damage_code told (run.damage_told slot tells found);
    outside_fault = λ is. run.outside_fault (outside_fault_at told is);
    spent = λ is. run.rounds_spent (spent_at told is);
    spent_told = λ rounds some took. spent_code told (spent_ending before.sink.taken after.sink.taken rounds some took options.rounds run.ended.0 told run.ended.2);
    numbers_spent = λ is. run.numbers_spent (numbers_spent_at told is);
    numbers_told = λ keeps some.
        numbers_code told (numbers_ending names answers options before.around after.around some keeps run.ended.0 run.ended.1 options.rounds before.sink.taken after.sink.taken told run.ended.2);
    too_large = λ is. run.too_large (too_large_at told is);
    size_told = λ keeps tells some.
        size_code told (HasRisen before.around.folder.faults after.around.folder.faults) (size_ending names answers options before.around after.around some tells keeps run.ended.0 run.ended.1 options.rounds before.sink.taken after.sink.taken told run.ended.2);
    complete = λ no_write no_store no_folder no_clock no_entropy. others told
        (λ is. no_write (run.write_fault is))
        (λ is. no_store (run.store_fault is))
        (λ is. fails_not (run.outside_fault is) no_folder no_clock no_entropy);
    statuses = statuses_of told;
  }
