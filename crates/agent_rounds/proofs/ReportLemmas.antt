-- The report of a round.
use Rattle.std.proofs.Common.{◌≡◌, ◌⊎◌, ℕ, List, Bool, true, false, Ok, Err, inl, inr, refl, sym, subst}
use Rattle.std.specs.Prelude.{◌&&◌, not}
use Rattle.std.proofs.lemmas.Bool.{false≢true}
use Rattle.edge_devices.specs.Disks.{DiskState, Countdown}
use Rattle.agent_rules.specs.declared.rules.parts.AgentFail.{AgentFail}
use Rattle.agent_rules.specs.declared.rules.parts.AgentFail.TheVariants as fails
use Rattle.agent_rules.specs.Half.{entry_of, kept_part}
use Rattle.agent_rules.specs.Keeping.{Report, fits, kept_by}
use Rattle.agent_rules.specs.Calls.{call_after, has_number, may_report}
use Rattle.agent_state.specs.View.{AgentView, FitsDisk, IsOneSave}
use Rattle.agent_state.specs.Refusals.{ReportRefusal}
use Rattle.message_reports.specs.Reports.{canonical_report}
use Rattle.agent_rules.specs.Reports.{fits_message, message_of}
use Rattle.agent_rounds.specs.declared.ends.AgentEnd.{AgentEnd}
use Rattle.agent_rounds.specs.declared.ends.AgentEnd.TheVariants.{FolderFault, StoreFault, NumbersSpent, TooLarge, NoMemory, ClockFault, RoundsSpent}
use Rattle.agent_rounds.specs.Stages.{IsSpent, Stage}
use Rattle.agent_rounds.specs.Parts.{EndsReport, MakesReport}
use Rattle.agent_rounds.specs.Moments.{IsEndOf, IsSettlingEnd, RunsPart, is_store_fault, with_agent}
use Rattle.agent_rounds.proofs.CallLemmas.{call_made, large_by, roomy_by, spent_by, store_fault}
use Rattle.agent_rounds.proofs.RunLemmas.{run_beside}

has_room : (awaits small number room : Bool) → (not awaits && (small && (number && room))) ≡ true → room ≡ true
has_room false true true room all = all
has_room false true false room all = absurd (false≢true all)
has_room false false number room all = absurd (false≢true all)
has_room true small number room all = absurd (false≢true all)

-- the report is made
pub report_made : {T : Type 0} (old new : DiskState) (c d : Countdown) (a b : AgentView) (s : Stage) (value : T) (bytes : List ℕ)
    → bytes ≡ canonical_report (message_of (entry_of a.half)) → may_report a.half ≡ true → b.half ≡ call_after a.half Report → IsOneSave old new c d a b Report (Ok value)
    → RunsPart MakesReport old new (with_agent a s) (with_agent b s) (Ok bytes)
report_made old new c d a b s value bytes bytes_are due is one =
    let call = call_made Report old new c d a b s value (has_room a.half.awaits (fits_message (message_of (entry_of a.half))) (has_number a.half) (fits a.half Report) due) is one in
    record { saves = call.saves; does = (bytes_are, due, call.does); images = call.images }

module _ (old new : DiskState) (c d : Countdown) (a b : AgentView) (s : Stage) where
  unchanged_by : (end : AgentEnd) → RunsPart MakesReport old old (with_agent a s) (with_agent a s) (Err end) → b ≡ a → new ≡ old
      → RunsPart MakesReport old new (with_agent a s) (with_agent b s) (Err end)
  unchanged_by end runs same disk =
      subst (λ v. RunsPart MakesReport old new (with_agent a s) (with_agent v s) (Err end)) (sym same)
      (subst (λ d. RunsPart MakesReport old d (with_agent a s) (with_agent a s) (Err end)) (sym disk) runs)

  -- no report is made
  pub report_refused : (T : Type 0) (fail : AgentFail) (end : AgentEnd) → IsEndOf fail end → a.half.room ≡ a.store.layout.room → FitsDisk old a.store (kept_part a.half)
      → IsOneSave {T = T} old new c d a b Report (Err fail) → ReportRefusal a fail → (fail ≡ fails.StoreFault → may_report a.half ≡ true)
      → RunsPart MakesReport old new (with_agent a s) (with_agent b s) (Err end)
  report_refused T fails.StoreFault end is room fits one why due =
      subst (λ e. RunsPart MakesReport old new (with_agent a s) (with_agent b s) (Err e)) (sym is)
      (let call =
      store_fault Report old new c d a b s T one why.1 (roomy_by (with_agent a s) Report room (kept_by a.half Report) refl why.0 why.1)
      in record { saves = call.saves; does = (due refl, call.does); images = call.images })
  report_refused T fails.NumbersSpent end is room fits one why due =
      subst (λ e. RunsPart MakesReport old new (with_agent a s) (with_agent b s) (Err e)) (sym is)
      (unchanged_by NumbersSpent
      (run_beside MakesReport old (with_agent a s) (with_agent a s) (Err NumbersSpent) fits refl refl refl (
        (
          why.0,
          elim why.1 as (λ _. (has_number a.half ≡ false) ⊎ IsSpent (with_agent a s) Report) [
            | inl none ↦ inl none
            | inr call ↦ inr (spent_by (with_agent a s) Report room (kept_by a.half Report) refl call.0 call.1)
          ],
        ),
        refl,
      ))
      (one.unchanged (λ fault. cc)) (one.untouched (λ fault. cc)))
  report_refused T fails.TooLarge end is room fits one why due =
      subst (λ e. RunsPart MakesReport old new (with_agent a s) (with_agent b s) (Err e)) (sym is)
      (unchanged_by TooLarge
      (run_beside MakesReport old (with_agent a s) (with_agent a s) (Err TooLarge) fits refl refl refl (
        elim why as (λ _. EndsReport (with_agent a s) TooLarge) [
          | inl large ↦ inl large
          | inr call ↦ inr (call.0, large_by (with_agent a s) Report room (kept_by a.half Report) refl call.1.0 call.1.1)
        ],
        refl,
      ))
      (one.unchanged (λ fault. cc)) (one.untouched (λ fault. cc)))
  report_refused T fails.NoMemory end is room fits one why due =
      subst (λ e. RunsPart MakesReport old new (with_agent a s) (with_agent b s) (Err e)) (sym is)
      (unchanged_by NoMemory (run_beside MakesReport old (with_agent a s) (with_agent a s) (Err NoMemory) fits refl refl refl (tt, refl))
      (one.unchanged (λ fault. cc)) (one.untouched (λ fault. cc)))
  report_refused T fails.WrongUid end is room fits one why due = absurd is

-- a settling doesn't touch the disk
pub settling_intact : (end : AgentEnd) → IsSettlingEnd end → is_store_fault end ≡ false
settling_intact FolderFault is = refl
settling_intact NoMemory is = refl
settling_intact StoreFault is = absurd is
settling_intact NumbersSpent is = absurd is
settling_intact TooLarge is = absurd is
settling_intact ClockFault is = absurd is
settling_intact RoundsSpent is = absurd is
