-- What the statuses of a run say of it.
use Rattle.std.proofs.Common.{◌≡◌, ◌⊎◌, ℕ, List, Option, Some, Ok, inl, inr, refl, sym, subst, ◌∙◌}
use Rattle.std.specs.Io.KnownBytes.{Appends}
use Rattle.message_values.specs.declared.custom.CustomMessage.{CustomMessage}
use Rattle.command_words.specs.declared.commands.AgentOptions.{AgentOptions}
use Rattle.command_agent.specs.declared.endings.Ending.{Ending}
use Rattle.command_agent.specs.declared.endings.Ending.TheVariants as endings
use Rattle.command_agent.specs.declared.lines.Line.{Line}
use Rattle.command_agent.specs.declared.lines.Line.TheVariants as lines
use Rattle.command_agent.specs.declared.status.AgentStatus.{AgentStatus}
use Rattle.command_agent.specs.declared.status.AgentStatus.TheVariants as statuses
use Rattle.command_agent.specs.Endings.{Tells, TellsBy}
use Rattle.command_agent.specs.Lines.{text_of}
use Rattle.command_agent.specs.Running.{AgentRuns, DoesAllRounds, EndsSo, RunsOutOfNumbers, RunsOutOfRoom, Surroundings}
use Rattle.command_agent.specs.Starting.{FindsDamage}

-- told whole, or by a fault or want of memory in its place
told_line : (old new : Option (List ℕ)) (line : Line) (done status : AgentStatus) → TellsBy (Some line) done old new status
    → ((status ≡ done) × Appends old new (text_of line)) ⊎ ((status ≡ statuses.WriteFault) ⊎ (status ≡ statuses.NoMemory))
told_line old new line done status (inl whole) = inl whole
told_line old new line done status (inr (inl cut)) = inr (inl cut.0)
told_line old new line done status (inr (inr none)) = inr (inr none.0)

-- where the status is another than these
told_as : (old new : Option (List ℕ)) (line : Line) (done status : AgentStatus) → TellsBy (Some line) done old new status
    → (status ≡ statuses.WriteFault → ⊥) → (status ≡ statuses.NoMemory → ⊥) → (status ≡ done) × Appends old new (text_of line)
told_as old new line done status told no_write memory = elim (told_line old new line done status told) [
  | inl whole ↦ whole
  | inr other ↦ elim other [ inl cut ↦ absurd (no_write cut) | inr none ↦ absurd (memory none) ]
]

module _ (handlers : List (List ℕ)) (may : CustomMessage → Option CustomMessage → Type 0) (options : AgentOptions) (old new : Surroundings) (taken taken' : Option (List ℕ)) where
  pub restarted_run : (ending : Ending) (status : AgentStatus) → EndsSo handlers may options old new ending → Tells options.rounds ending taken taken' status → status ≡ statuses.Restarted
      → (round : ℕ) × AgentRuns handlers may options old new (Ok round) × Appends taken taken' (text_of (lines.Restart round))
  restarted_run (endings.Restarted round) status run told is = (round, run, (told_as taken taken' (lines.Restart round) statuses.Restarted status told (λ w. let f : statuses.WriteFault ≡ statuses.Restarted = sym w ∙ is in cc) (λ w. let f : statuses.NoMemory ≡ statuses.Restarted = sym w ∙ is in cc)).1)
  restarted_run endings.RoundsSpent status run told is = absurd (let e = (told_as taken taken' (lines.Rounds options.rounds) statuses.RoundsSpent status told (λ w. let f : statuses.WriteFault ≡ statuses.Restarted = sym w ∙ is in cc) (λ w. let f : statuses.NoMemory ≡ statuses.Restarted = sym w ∙ is in cc)).0 in let f : statuses.RoundsSpent ≡ statuses.Restarted = sym e ∙ is in cc)
  restarted_run (endings.Damaged slot) status run told is = absurd (let e = (told_as taken taken' (lines.Damaged slot) statuses.Damaged status told (λ w. let f : statuses.WriteFault ≡ statuses.Restarted = sym w ∙ is in cc) (λ w. let f : statuses.NoMemory ≡ statuses.Restarted = sym w ∙ is in cc)).0 in let f : statuses.Damaged ≡ statuses.Restarted = sym e ∙ is in cc)
  restarted_run endings.StoreFault status run told is = absurd (let f : statuses.StoreFault ≡ statuses.Restarted = sym told.0 ∙ is in cc)
  restarted_run endings.OutsideFault status run told is = absurd (let f : statuses.OutsideFault ≡ statuses.Restarted = sym told.0 ∙ is in cc)
  restarted_run endings.NumbersSpent status run told is = absurd (let f : statuses.NumbersSpent ≡ statuses.Restarted = sym told.0 ∙ is in cc)
  restarted_run endings.TooLarge status run told is = absurd (let f : statuses.TooLarge ≡ statuses.Restarted = sym told.0 ∙ is in cc)
  restarted_run endings.NoMemory status run told is = absurd (let f : statuses.NoMemory ≡ statuses.Restarted = sym told.0 ∙ is in cc)

  pub spent_run : (ending : Ending) (status : AgentStatus) → EndsSo handlers may options old new ending → Tells options.rounds ending taken taken' status → status ≡ statuses.RoundsSpent
      → DoesAllRounds handlers may options old new × Appends taken taken' (text_of (lines.Rounds options.rounds))
  spent_run (endings.Restarted round) status run told is = absurd (let e = (told_as taken taken' (lines.Restart round) statuses.Restarted status told (λ w. let f : statuses.WriteFault ≡ statuses.RoundsSpent = sym w ∙ is in cc) (λ w. let f : statuses.NoMemory ≡ statuses.RoundsSpent = sym w ∙ is in cc)).0 in let f : statuses.Restarted ≡ statuses.RoundsSpent = sym e ∙ is in cc)
  spent_run endings.RoundsSpent status run told is = (run, (told_as taken taken' (lines.Rounds options.rounds) statuses.RoundsSpent status told (λ w. let f : statuses.WriteFault ≡ statuses.RoundsSpent = sym w ∙ is in cc) (λ w. let f : statuses.NoMemory ≡ statuses.RoundsSpent = sym w ∙ is in cc)).1)
  spent_run (endings.Damaged slot) status run told is = absurd (let e = (told_as taken taken' (lines.Damaged slot) statuses.Damaged status told (λ w. let f : statuses.WriteFault ≡ statuses.RoundsSpent = sym w ∙ is in cc) (λ w. let f : statuses.NoMemory ≡ statuses.RoundsSpent = sym w ∙ is in cc)).0 in let f : statuses.Damaged ≡ statuses.RoundsSpent = sym e ∙ is in cc)
  spent_run endings.StoreFault status run told is = absurd (let f : statuses.StoreFault ≡ statuses.RoundsSpent = sym told.0 ∙ is in cc)
  spent_run endings.OutsideFault status run told is = absurd (let f : statuses.OutsideFault ≡ statuses.RoundsSpent = sym told.0 ∙ is in cc)
  spent_run endings.NumbersSpent status run told is = absurd (let f : statuses.NumbersSpent ≡ statuses.RoundsSpent = sym told.0 ∙ is in cc)
  spent_run endings.TooLarge status run told is = absurd (let f : statuses.TooLarge ≡ statuses.RoundsSpent = sym told.0 ∙ is in cc)
  spent_run endings.NoMemory status run told is = absurd (let f : statuses.NoMemory ≡ statuses.RoundsSpent = sym told.0 ∙ is in cc)

  pub damaged_run : (ending : Ending) (status : AgentStatus) → EndsSo handlers may options old new ending → Tells options.rounds ending taken taken' status → status ≡ statuses.Damaged
      → (slot : ℕ) × FindsDamage old.disk new.disk slot × Appends taken taken' (text_of (lines.Damaged slot))
  damaged_run (endings.Restarted round) status run told is = absurd (let e = (told_as taken taken' (lines.Restart round) statuses.Restarted status told (λ w. let f : statuses.WriteFault ≡ statuses.Damaged = sym w ∙ is in cc) (λ w. let f : statuses.NoMemory ≡ statuses.Damaged = sym w ∙ is in cc)).0 in let f : statuses.Restarted ≡ statuses.Damaged = sym e ∙ is in cc)
  damaged_run endings.RoundsSpent status run told is = absurd (let e = (told_as taken taken' (lines.Rounds options.rounds) statuses.RoundsSpent status told (λ w. let f : statuses.WriteFault ≡ statuses.Damaged = sym w ∙ is in cc) (λ w. let f : statuses.NoMemory ≡ statuses.Damaged = sym w ∙ is in cc)).0 in let f : statuses.RoundsSpent ≡ statuses.Damaged = sym e ∙ is in cc)
  damaged_run (endings.Damaged slot) status run told is = (slot, run.0, (told_as taken taken' (lines.Damaged slot) statuses.Damaged status told (λ w. let f : statuses.WriteFault ≡ statuses.Damaged = sym w ∙ is in cc) (λ w. let f : statuses.NoMemory ≡ statuses.Damaged = sym w ∙ is in cc)).1)
  damaged_run endings.StoreFault status run told is = absurd (let f : statuses.StoreFault ≡ statuses.Damaged = sym told.0 ∙ is in cc)
  damaged_run endings.OutsideFault status run told is = absurd (let f : statuses.OutsideFault ≡ statuses.Damaged = sym told.0 ∙ is in cc)
  damaged_run endings.NumbersSpent status run told is = absurd (let f : statuses.NumbersSpent ≡ statuses.Damaged = sym told.0 ∙ is in cc)
  damaged_run endings.TooLarge status run told is = absurd (let f : statuses.TooLarge ≡ statuses.Damaged = sym told.0 ∙ is in cc)
  damaged_run endings.NoMemory status run told is = absurd (let f : statuses.NoMemory ≡ statuses.Damaged = sym told.0 ∙ is in cc)

  pub numbers_run : (ending : Ending) (status : AgentStatus) → EndsSo handlers may options old new ending → Tells options.rounds ending taken taken' status → status ≡ statuses.NumbersSpent
      → RunsOutOfNumbers handlers may options old new
  numbers_run (endings.Restarted round) status run told is = absurd (let e = (told_as taken taken' (lines.Restart round) statuses.Restarted status told (λ w. let f : statuses.WriteFault ≡ statuses.NumbersSpent = sym w ∙ is in cc) (λ w. let f : statuses.NoMemory ≡ statuses.NumbersSpent = sym w ∙ is in cc)).0 in let f : statuses.Restarted ≡ statuses.NumbersSpent = sym e ∙ is in cc)
  numbers_run endings.RoundsSpent status run told is = absurd (let e = (told_as taken taken' (lines.Rounds options.rounds) statuses.RoundsSpent status told (λ w. let f : statuses.WriteFault ≡ statuses.NumbersSpent = sym w ∙ is in cc) (λ w. let f : statuses.NoMemory ≡ statuses.NumbersSpent = sym w ∙ is in cc)).0 in let f : statuses.RoundsSpent ≡ statuses.NumbersSpent = sym e ∙ is in cc)
  numbers_run (endings.Damaged slot) status run told is = absurd (let e = (told_as taken taken' (lines.Damaged slot) statuses.Damaged status told (λ w. let f : statuses.WriteFault ≡ statuses.NumbersSpent = sym w ∙ is in cc) (λ w. let f : statuses.NoMemory ≡ statuses.NumbersSpent = sym w ∙ is in cc)).0 in let f : statuses.Damaged ≡ statuses.NumbersSpent = sym e ∙ is in cc)
  numbers_run endings.StoreFault status run told is = absurd (let f : statuses.StoreFault ≡ statuses.NumbersSpent = sym told.0 ∙ is in cc)
  numbers_run endings.OutsideFault status run told is = absurd (let f : statuses.OutsideFault ≡ statuses.NumbersSpent = sym told.0 ∙ is in cc)
  numbers_run endings.NumbersSpent status run told is = run
  numbers_run endings.TooLarge status run told is = absurd (let f : statuses.TooLarge ≡ statuses.NumbersSpent = sym told.0 ∙ is in cc)
  numbers_run endings.NoMemory status run told is = absurd (let f : statuses.NoMemory ≡ statuses.NumbersSpent = sym told.0 ∙ is in cc)

  pub large_run : (ending : Ending) (status : AgentStatus) → EndsSo handlers may options old new ending → Tells options.rounds ending taken taken' status → status ≡ statuses.TooLarge
      → RunsOutOfRoom handlers may options old new
  large_run (endings.Restarted round) status run told is = absurd (let e = (told_as taken taken' (lines.Restart round) statuses.Restarted status told (λ w. let f : statuses.WriteFault ≡ statuses.TooLarge = sym w ∙ is in cc) (λ w. let f : statuses.NoMemory ≡ statuses.TooLarge = sym w ∙ is in cc)).0 in let f : statuses.Restarted ≡ statuses.TooLarge = sym e ∙ is in cc)
  large_run endings.RoundsSpent status run told is = absurd (let e = (told_as taken taken' (lines.Rounds options.rounds) statuses.RoundsSpent status told (λ w. let f : statuses.WriteFault ≡ statuses.TooLarge = sym w ∙ is in cc) (λ w. let f : statuses.NoMemory ≡ statuses.TooLarge = sym w ∙ is in cc)).0 in let f : statuses.RoundsSpent ≡ statuses.TooLarge = sym e ∙ is in cc)
  large_run (endings.Damaged slot) status run told is = absurd (let e = (told_as taken taken' (lines.Damaged slot) statuses.Damaged status told (λ w. let f : statuses.WriteFault ≡ statuses.TooLarge = sym w ∙ is in cc) (λ w. let f : statuses.NoMemory ≡ statuses.TooLarge = sym w ∙ is in cc)).0 in let f : statuses.Damaged ≡ statuses.TooLarge = sym e ∙ is in cc)
  large_run endings.StoreFault status run told is = absurd (let f : statuses.StoreFault ≡ statuses.TooLarge = sym told.0 ∙ is in cc)
  large_run endings.OutsideFault status run told is = absurd (let f : statuses.OutsideFault ≡ statuses.TooLarge = sym told.0 ∙ is in cc)
  large_run endings.NumbersSpent status run told is = absurd (let f : statuses.NumbersSpent ≡ statuses.TooLarge = sym told.0 ∙ is in cc)
  large_run endings.TooLarge status run told is = run
  large_run endings.NoMemory status run told is = absurd (let f : statuses.NoMemory ≡ statuses.TooLarge = sym told.0 ∙ is in cc)

  pub store_run : (ending : Ending) (status : AgentStatus) → EndsSo handlers may options old new ending → Tells options.rounds ending taken taken' status → status ≡ statuses.StoreFault
      → ending ≡ endings.StoreFault
  store_run (endings.Restarted round) status run told is = absurd (let e = (told_as taken taken' (lines.Restart round) statuses.Restarted status told (λ w. let f : statuses.WriteFault ≡ statuses.StoreFault = sym w ∙ is in cc) (λ w. let f : statuses.NoMemory ≡ statuses.StoreFault = sym w ∙ is in cc)).0 in let f : statuses.Restarted ≡ statuses.StoreFault = sym e ∙ is in cc)
  store_run endings.RoundsSpent status run told is = absurd (let e = (told_as taken taken' (lines.Rounds options.rounds) statuses.RoundsSpent status told (λ w. let f : statuses.WriteFault ≡ statuses.StoreFault = sym w ∙ is in cc) (λ w. let f : statuses.NoMemory ≡ statuses.StoreFault = sym w ∙ is in cc)).0 in let f : statuses.RoundsSpent ≡ statuses.StoreFault = sym e ∙ is in cc)
  store_run (endings.Damaged slot) status run told is = absurd (let e = (told_as taken taken' (lines.Damaged slot) statuses.Damaged status told (λ w. let f : statuses.WriteFault ≡ statuses.StoreFault = sym w ∙ is in cc) (λ w. let f : statuses.NoMemory ≡ statuses.StoreFault = sym w ∙ is in cc)).0 in let f : statuses.Damaged ≡ statuses.StoreFault = sym e ∙ is in cc)
  store_run endings.StoreFault status run told is = refl
  store_run endings.OutsideFault status run told is = absurd (let f : statuses.OutsideFault ≡ statuses.StoreFault = sym told.0 ∙ is in cc)
  store_run endings.NumbersSpent status run told is = absurd (let f : statuses.NumbersSpent ≡ statuses.StoreFault = sym told.0 ∙ is in cc)
  store_run endings.TooLarge status run told is = absurd (let f : statuses.TooLarge ≡ statuses.StoreFault = sym told.0 ∙ is in cc)
  store_run endings.NoMemory status run told is = absurd (let f : statuses.NoMemory ≡ statuses.StoreFault = sym told.0 ∙ is in cc)

  pub outside_run : (ending : Ending) (status : AgentStatus) → EndsSo handlers may options old new ending → Tells options.rounds ending taken taken' status → status ≡ statuses.OutsideFault
      → ending ≡ endings.OutsideFault
  outside_run (endings.Restarted round) status run told is = absurd (let e = (told_as taken taken' (lines.Restart round) statuses.Restarted status told (λ w. let f : statuses.WriteFault ≡ statuses.OutsideFault = sym w ∙ is in cc) (λ w. let f : statuses.NoMemory ≡ statuses.OutsideFault = sym w ∙ is in cc)).0 in let f : statuses.Restarted ≡ statuses.OutsideFault = sym e ∙ is in cc)
  outside_run endings.RoundsSpent status run told is = absurd (let e = (told_as taken taken' (lines.Rounds options.rounds) statuses.RoundsSpent status told (λ w. let f : statuses.WriteFault ≡ statuses.OutsideFault = sym w ∙ is in cc) (λ w. let f : statuses.NoMemory ≡ statuses.OutsideFault = sym w ∙ is in cc)).0 in let f : statuses.RoundsSpent ≡ statuses.OutsideFault = sym e ∙ is in cc)
  outside_run (endings.Damaged slot) status run told is = absurd (let e = (told_as taken taken' (lines.Damaged slot) statuses.Damaged status told (λ w. let f : statuses.WriteFault ≡ statuses.OutsideFault = sym w ∙ is in cc) (λ w. let f : statuses.NoMemory ≡ statuses.OutsideFault = sym w ∙ is in cc)).0 in let f : statuses.Damaged ≡ statuses.OutsideFault = sym e ∙ is in cc)
  outside_run endings.StoreFault status run told is = absurd (let f : statuses.StoreFault ≡ statuses.OutsideFault = sym told.0 ∙ is in cc)
  outside_run endings.OutsideFault status run told is = refl
  outside_run endings.NumbersSpent status run told is = absurd (let f : statuses.NumbersSpent ≡ statuses.OutsideFault = sym told.0 ∙ is in cc)
  outside_run endings.TooLarge status run told is = absurd (let f : statuses.TooLarge ≡ statuses.OutsideFault = sym told.0 ∙ is in cc)
  outside_run endings.NoMemory status run told is = absurd (let f : statuses.NoMemory ≡ statuses.OutsideFault = sym told.0 ∙ is in cc)

-- a damaged store is told, or the sink fails or memory is wanting; a fault of the disk and want of memory are told as such
damage_told : (rounds slot : ℕ) (taken taken' : Option (List ℕ)) (status : AgentStatus) → Tells rounds (endings.Damaged slot) taken taken' status
    → (status ≡ statuses.Damaged) ⊎ ((status ≡ statuses.StoreFault) ⊎ ((status ≡ statuses.NoMemory) ⊎ (status ≡ statuses.WriteFault)))
damage_told rounds slot taken taken' status told = elim (told_line taken taken' (lines.Damaged slot) statuses.Damaged status told) [
  | inl whole ↦ inl whole.0
  | inr other ↦ elim other [ inl cut ↦ inr (inr (inr cut)) | inr none ↦ inr (inr (inl none)) ]
]

pub told_damaged : (rounds slot : ℕ) (taken taken' : Option (List ℕ)) (ending : Ending) → ending ≡ endings.Damaged slot → (status : AgentStatus) → Tells rounds ending taken taken' status
    → (status ≡ statuses.Damaged) ⊎ ((status ≡ statuses.StoreFault) ⊎ ((status ≡ statuses.NoMemory) ⊎ (status ≡ statuses.WriteFault)))
told_damaged rounds slot taken taken' ending is status told = damage_told rounds slot taken taken' status (subst (λ (e : Ending). Tells rounds e taken taken' status) is told)

pub told_faulty : (rounds : ℕ) (taken taken' : Option (List ℕ)) (ending : Ending) → ending ≡ endings.StoreFault → (status : AgentStatus) → Tells rounds ending taken taken' status → status ≡ statuses.StoreFault
told_faulty rounds taken taken' ending is status told = (subst (λ (e : Ending). Tells rounds e taken taken' status) is told).0

pub told_wanting : (rounds : ℕ) (taken taken' : Option (List ℕ)) (ending : Ending) → ending ≡ endings.NoMemory → (status : AgentStatus) → Tells rounds ending taken taken' status → status ≡ statuses.NoMemory
told_wanting rounds taken taken' ending is status told = (subst (λ (e : Ending). Tells rounds e taken taken' status) is told).0
