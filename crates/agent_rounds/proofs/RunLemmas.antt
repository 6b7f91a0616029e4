-- How the parts of a round join.
use Rattle.std.proofs.Common.{◌≡◌, List, [], ◌++◌, false, Result, Ok, Err, IfErr, OnOk, inl, inr, refl, sym, ap, subst}
use Rattle.std.proofs.lemmas.List.{append_assoc, append-nil}
use Rattle.edge_devices.specs.Disks.{DiskState}
use Rattle.agent_rules.specs.declared.saved.Saved.{Saved}
use Rattle.agent_rules.specs.Half.{kept_part}
use Rattle.agent_state.specs.View.{FitsDisk}
use Rattle.agent_rounds.specs.declared.ends.AgentEnd.{AgentEnd}
use Rattle.agent_rounds.specs.declared.ends.AgentEnd.TheVariants.{ClockFault}
use Rattle.agent_rounds.specs.Stages.{Stage, Then}
use Rattle.agent_rounds.specs.Moments.{KeepsImages, Leads, Moment, RunsPart, agent_at, is_store_fault, stage_at, store_failed, with_saves}
use Rattle.agent_rounds.proofs.ImageLemmas.{joined, nothing_kept}

module _ {A B : Type 0} (P : Stage → Stage → Result A AgentEnd → Type 0) (Q : A → Stage → Stage → Result B AgentEnd → Type 0) where
  -- the first part goes on, and the second follows; or the first ends the round
  pub goes_on : (s m t : Stage) (a : A) (r : Result B AgentEnd) → P s m (Ok a) → Q a m t r → Then P Q s t r
  goes_on s m t a (Ok b) first second = (m, (a, (first, second)))
  goes_on s m t a (Err end) first second = inr (m, (a, (first, second)))

  -- the same of what was kept
  pub run_on : (old mid new : DiskState) (s m t : Stage) (a : A) (r : Result B AgentEnd) (first : RunsPart P old mid s m (Ok a))
      → RunsPart (Q a) mid new (with_saves first.saves m) (with_saves first.saves t) r → RunsPart (Then P Q) old new s t r
  run_on old mid new s m t a r first second = record {
    saves = first.saves ++ second.saves;
    does = subst (λ keeps. Then P Q s (record t { keeps = keeps }) r) (append_assoc t.keeps first.saves second.saves)
        (goes_on s (with_saves first.saves m) (with_saves second.saves (with_saves first.saves t)) a r first.does second.does);
    images = joined old mid new (agent_at s) (agent_at m) (agent_at t) first.saves second.saves (store_failed r) first.images second.images;
  }

  pub run_ends : (old new : DiskState) (s t : Stage) (end : AgentEnd) → RunsPart P old new s t (Err end) → RunsPart (Then P Q) old new s t (Err end)
  run_ends old new s t end first = record { saves = first.saves; does = inl first.does; images = first.images }

-- a part that isn't lent the disk, and changes nothing of what is kept
pub run_beside : {T : Type 0} (P : Stage → Stage → Result T AgentEnd → Type 0) (disk : DiskState) (s t : Stage) (r : Result T AgentEnd)
    → FitsDisk disk s.store (kept_part s.half) → t.store ≡ s.store → kept_part t.half ≡ kept_part s.half → store_failed r ≡ false → P s t r → RunsPart P disk disk s t r
run_beside P disk s t r fits store part intact does = record {
  saves = [];
  does = subst (λ keeps. P s (record t { keeps = keeps }) r) (sym (append-nil t.keeps)) does;
  images = subst (λ failed. KeepsImages disk disk (agent_at s) (agent_at t) [] failed) (sym intact) (nothing_kept disk (agent_at s) (agent_at t) fits store part);
}

module _ {A B : Type 0} (P : Stage → Stage → Result A AgentEnd → Type 0) (Q : A → Stage → Stage → Result B AgentEnd → Type 0) where
  -- one part leads on to the next, or ends the round
  pub leads_on : (before between after : Moment) (a : A) (r : Result B AgentEnd) → Leads P before between (Ok a) → Leads (Q a) between after r → Leads (Then P Q) before after r
  leads_on before between after a r first second =
      λ keeps. run_on P Q before.disk between.disk after.disk (stage_at before keeps) (stage_at between keeps) (stage_at after keeps) a r (first keeps)
      (second (keeps ++ (first keeps).saves))

  pub leads_out : (before after : Moment) (end : AgentEnd) → Leads P before after (Err end) → Leads (Then P Q) before after (Err end)
  leads_out before after end first = λ keeps. run_ends P Q before.disk after.disk (stage_at before keeps) (stage_at after keeps) end (first keeps)

-- so does a part that isn't lent the disk
pub leads_beside : {T : Type 0} (P : Stage → Stage → Result T AgentEnd → Type 0) (before after : Moment) (r : Result T AgentEnd)
    → FitsDisk before.disk before.agent.store (kept_part before.agent.half) → after.agent.store ≡ before.agent.store → kept_part after.agent.half ≡ kept_part before.agent.half
    → store_failed r ≡ false → ((keeps : List Saved) → P (stage_at before keeps) (stage_at after keeps) r) → Leads P before (record after { disk = before.disk }) r
leads_beside P before after r fits store part intact does =
    λ keeps. run_beside P before.disk (stage_at before keeps) (stage_at after keeps) r fits store part intact (does keeps)

-- a wait doesn't touch the disk
pub wait_intact : {T : Type 0} (r : Result T AgentEnd) → IfErr r (λ end. end ≡ ClockFault) → store_failed r ≡ false
wait_intact (Ok value) is = refl
wait_intact (Err end) is = ap is_store_fault is

-- what always holds, holds at Ok
pub on_ok : {T E P : Type 0} (r : Result T E) → P → OnOk r P
on_ok (Ok value) p = p
on_ok (Err fail) p = tt
