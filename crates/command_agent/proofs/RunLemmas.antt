-- How runs end.
use Rattle.std.proofs.Common.{◌≡◌, ◌≤◌, ◌⊎◌, ℕ, List, [], Bool, true, false, Option, Result, Ok, Err, inl, inr, refl, ap, sym, ◌∙◌, arith}
use Rattle.std.specs.Prelude.{IsSome, IsTrue}
use Rattle.message_values.specs.declared.custom.CustomCapabilities.{CustomCapabilities}
use Rattle.message_values.specs.declared.custom.CustomMessage.{CustomMessage}
use Rattle.edge_devices.specs.Disks.{DiskState}
use Rattle.edge_devices.specs.Faults.{HasRisen}
use Rattle.agent_store.specs.Slots as slots
use Rattle.agent_rules.specs.declared.saved.Saved.{Saved}
use Rattle.message_handlers.specs.Names.{IsOrdered}
use Rattle.agent_state.specs.View.{AgentView}
use Rattle.agent_rounds.specs.Area.{HasConfigOrDue, LeavesConfig}
use Rattle.agent_rounds.specs.Ends.{ReportSpent, ReportTooLarge, RoundsDoneBy}
use Rattle.agent_rounds.specs.Listening.{PushedRounds}
use Rattle.agent_rounds.specs.Moments.{Leads, Moment, nothing_held, stage_at, with_saves}
use Rattle.agent_rounds.specs.Proving.{LeavesFormerOrProved}
use Rattle.agent_rounds.specs.Rounds.{AgentRounds, RoundsBy}
use Rattle.agent_rounds.specs.Stages.{Stage}
use Rattle.agent_rounds.specs.Status.{HeldView}
use Rattle.agent_rounds.specs.declared.ends.AgentEnd.{AgentEnd}
use Rattle.agent_rounds.specs.declared.ends.AgentEnd.TheVariants as ends
use Rattle.command_agent.specs.declared.endings.Ending.TheVariants as endings
use Rattle.command_words.specs.declared.commands.AgentOptions.{AgentOptions}
use Rattle.command_agent.specs.declared.starting.StartFail.{StartFail}
use Rattle.command_agent.specs.declared.starting.StartFail.TheVariants as starts
use Rattle.command_agent.specs.Endings.{ending_of, ending_without}
use Rattle.command_agent.specs.Running.{AgentRuns, EndsSo, FailsOutside, NotBegun, ReplyEndsRun, Surroundings, asking_of, first_moment, last_moment, waiting_of}
use Rattle.command_agent.specs.Starting.{FindsDamage, LacksUid, Starts}

module _ (handlers : List (List ℕ)) (may : CustomMessage → Option CustomMessage → Type 0) (options : AgentOptions) (old new : Surroundings) where
  pub ends_rounds : (end : Result ℕ AgentEnd) (run : AgentRuns handlers may options old new end) → (end ≡ Err ends.NumbersSpent → ReportSpent run.last ⊎ ReplyEndsRun ends.NumbersSpent handlers may options (first_moment options old run.loaded run.first) (last_moment new run.last))
      → (end ≡ Err ends.RoundsSpent → (held : HeldView) × (saves : List Saved) × RoundsDoneBy (asking_of options.push) (waiting_of options.push) may (λ names. IsOrdered handlers names.capabilities) options.rounds
      (stage_at (first_moment options old run.loaded run.first) []) (stage_at (last_moment new run.last held) saves))
      → (end ≡ Err ends.TooLarge → ReportTooLarge run.last ⊎ ReplyEndsRun ends.TooLarge handlers may options (first_moment options old run.loaded run.first) (last_moment new run.last))
      → EndsSo handlers may options old new (ending_of end)
  ends_rounds (Ok round) run lacks done large = run
  ends_rounds (Err ends.StoreFault) run lacks done large = inr run
  ends_rounds (Err ends.FolderFault) run lacks done large = inr (inl run)
  ends_rounds (Err ends.ClockFault) run lacks done large = inr (inr run)
  ends_rounds (Err ends.RoundsSpent) run lacks done large = let all = done refl in (run, all.0, all.1, all.2)
  ends_rounds (Err ends.NumbersSpent) run lacks done large = (run, lacks refl)
  ends_rounds (Err ends.TooLarge) run lacks done large = (run, large refl)
  ends_rounds (Err ends.NoMemory) run lacks done large = inr run

  pub ends_without : (fail : StartFail) → NotBegun old new
      → ((slot : ℕ) → fail ≡ starts.Damaged slot → FindsDamage old.disk new.disk slot × (new ≡ record old { disk = new.disk }))
      → (fail ≡ starts.EntropyFault → LacksUid old.disk new.disk old.entropy new.entropy)
      → EndsSo handlers may options old new (ending_without fail)
  ends_without starts.StoreFault none damage lacks = inl none
  ends_without (starts.Damaged slot) none damage lacks = damage slot refl
  ends_without starts.EntropyFault none damage lacks = inl (lacks refl, none)
  ends_without starts.NoMemory none damage lacks = inl none

  -- the rounds of an agent that started
  abbrev pub agent_runs : (loaded : DiskState) (first last : AgentView) (end : Result ℕ AgentEnd) → Starts handlers options old.disk loaded old.entropy new.entropy first
      → ((held : HeldView) × Leads (RoundsBy (asking_of options.push) (waiting_of options.push) may (λ names. IsOrdered handlers names.capabilities) options.rounds 0)
      (first_moment options old loaded first) (last_moment new last held) end)
      → (IsSome options.prove → LeavesFormerOrProved (first_moment options old loaded first) new.disk new.folder)
      → ((held : HeldView) → Leads (RoundsBy (asking_of options.push) (waiting_of options.push) may (λ names. IsOrdered handlers names.capabilities) options.rounds 0)
      (first_moment options old loaded first) (last_moment new last held) end
      → IsTrue old.folder.told → LeavesConfig (stage_at (first_moment options old loaded first) []) (stage_at (last_moment new last held) []) end)
      → AgentRuns handlers may options old new end
  agent_runs loaded first last end starts ran proved leaves = record {
    loaded = loaded;
    first = first;
    starts = starts;
    last = last;
    held = ran.0;
    rounds = ran.1;
    proved = proved;
    configuration = leaves ran.0 ran.1;
  }

  pub fails_rounds : (end : Result ℕ AgentEnd) → AgentRuns handlers may options old new end
      → (end ≡ Err ends.FolderFault → HasRisen old.folder.faults new.folder.faults) → (end ≡ Err ends.ClockFault → HasRisen old.clock.faults new.clock.faults)
      → ending_of end ≡ endings.OutsideFault → FailsOutside handlers may options old new
  fails_rounds (Ok round) run folder clock is = absurd (let e : endings.Restarted round ≡ endings.OutsideFault = is in cc)
  fails_rounds (Err ends.StoreFault) run folder clock is = absurd (let e : endings.StoreFault ≡ endings.OutsideFault = is in cc)
  fails_rounds (Err ends.FolderFault) run folder clock is = inr (inl (run, folder refl))
  fails_rounds (Err ends.ClockFault) run folder clock is = inr (inr (run, clock refl))
  fails_rounds (Err ends.RoundsSpent) run folder clock is = absurd (let e : endings.RoundsSpent ≡ endings.OutsideFault = is in cc)
  fails_rounds (Err ends.NumbersSpent) run folder clock is = absurd (let e : endings.NumbersSpent ≡ endings.OutsideFault = is in cc)
  fails_rounds (Err ends.TooLarge) run folder clock is = absurd (let e : endings.TooLarge ≡ endings.OutsideFault = is in cc)
  fails_rounds (Err ends.NoMemory) run folder clock is = absurd (let e : endings.NoMemory ≡ endings.OutsideFault = is in cc)

  pub fails_without : (fail : StartFail) → (fail ≡ starts.EntropyFault → LacksUid old.disk new.disk old.entropy new.entropy)
      → ending_without fail ≡ endings.OutsideFault → FailsOutside handlers may options old new
  fails_without starts.StoreFault lacks is = absurd (let e : endings.StoreFault ≡ endings.OutsideFault = is in cc)
  fails_without (starts.Damaged slot) lacks is = absurd (let e : endings.Damaged slot ≡ endings.OutsideFault = is in cc)
  fails_without starts.EntropyFault lacks is = inl (lacks refl, (lacks refl).fails.fault)
  fails_without starts.NoMemory lacks is = absurd (let e : endings.NoMemory ≡ endings.OutsideFault = is in cc)

-- what rounds that begin with nothing held leave of the area, with pushes and without
module _ (may : CustomMessage → Option CustomMessage → Type 0) (are : CustomCapabilities → Type 0)
    (begins : (s : Stage) (prove : Option ℕ) → s.held ≡ nothing_held prove → HasConfigOrDue s)
    (plain : (left done : ℕ) (s t : Stage) (result : Result ℕ AgentEnd) → IsTrue s.folder.told → HasConfigOrDue s → AgentRounds may are left done s t result → LeavesConfig s t result)
    (pushed : (left done : ℕ) (s t : Stage) (result : Result ℕ AgentEnd) → IsTrue s.folder.told → HasConfigOrDue s → PushedRounds may are left done s t result → LeavesConfig s t result) where
  rounds_leave : (push : Bool) (left : ℕ) (s t : Stage) (result : Result ℕ AgentEnd) → IsTrue s.folder.told → HasConfigOrDue s
      → RoundsBy (asking_of push) (waiting_of push) may are left 0 s t result → LeavesConfig s t result
  rounds_leave true left = pushed left 0
  rounds_leave false left = plain left 0

  pub leaves_config : (push : Bool) (rounds : ℕ) (prove : Option ℕ) (first last : Moment) (result : Result ℕ AgentEnd) → first.held ≡ nothing_held prove
      → Leads (RoundsBy (asking_of push) (waiting_of push) may are rounds 0) first last result → IsTrue first.folder.told → LeavesConfig (stage_at first []) (stage_at last []) result
  leaves_config push rounds prove first last result none leads told =
      let run = leads [] in
      rounds_leave push rounds (stage_at first []) (with_saves run.saves (stage_at last [])) result told (begins (stage_at first []) prove none) run.does

-- what ends a run so
pub by_store_fault : (end : Result ℕ AgentEnd) → ending_of end ≡ endings.StoreFault → end ≡ Err ends.StoreFault
by_store_fault (Ok round) same = cc
by_store_fault (Err ends.StoreFault) same = refl
by_store_fault (Err ends.FolderFault) same = cc
by_store_fault (Err ends.ClockFault) same = cc
by_store_fault (Err ends.RoundsSpent) same = cc
by_store_fault (Err ends.NumbersSpent) same = cc
by_store_fault (Err ends.TooLarge) same = cc
by_store_fault (Err ends.NoMemory) same = cc

pub without_store_fault : (fail : StartFail) → ending_without fail ≡ endings.StoreFault → fail ≡ starts.StoreFault
without_store_fault starts.StoreFault same = refl
without_store_fault (starts.Damaged slot) same = cc
without_store_fault starts.EntropyFault same = cc
without_store_fault starts.NoMemory same = cc

-- a damaged store is told by its slot, unless the disk failed or memory is wanting
pub without_damaged : (slot : ℕ) (fail : StartFail) → ((other : ℕ) → fail ≡ starts.Damaged other → other ≡ slot) → (fail ≡ starts.EntropyFault → ⊥)
    → (ending_without fail ≡ endings.Damaged slot) ⊎ ((ending_without fail ≡ endings.StoreFault) ⊎ (ending_without fail ≡ endings.NoMemory))
without_damaged slot starts.StoreFault alone drawn = inr (inl refl)
without_damaged slot (starts.Damaged other) alone drawn = inl (ap endings.Damaged (alone other refl))
without_damaged slot starts.EntropyFault alone drawn = absurd (drawn refl)
without_damaged slot starts.NoMemory alone drawn = inr (inr refl)

-- a count that rose later has risen since
pub risen_since : (old mid new : ℕ) → old ≤ mid → HasRisen mid new → HasRisen old new
risen_since old mid new rose (inl above) = inl (omega (arith, rose, above))
risen_since old mid new rose (inr full) = inr full

-- one slot is damaged
pub one_slot : (found : slots.Reading) (other slot : ℕ) → found ≡ slots.Damaged other → found ≡ slots.Damaged slot → other ≡ slot
one_slot found other slot one two = let e : slots.Damaged other ≡ slots.Damaged slot = sym one ∙ two in cc
