-- Rounds that follow one another.
use Rattle.std.proofs.Common.{◌≡◌, ◌<◌, ◌+◌, ◌-◌, ℕ, suc, true, false, Result, Ok, Err, Option, refl, sym, subst, arith}
use Rattle.message_values.specs.declared.custom.CustomCapabilities.{CustomCapabilities}
use Rattle.message_values.specs.declared.custom.CustomMessage.{CustomMessage}
use Rattle.agent_rules.specs.Half.{kept_part}
use Rattle.agent_state.specs.View.{FitsDisk}
use Rattle.agent_rounds.specs.declared.ends.AgentEnd.{AgentEnd}
use Rattle.agent_rounds.specs.declared.ends.AgentEnd.TheVariants.{RoundsSpent}
use Rattle.agent_rounds.specs.Moments.{Leads, Moment}
use Rattle.agent_rounds.specs.Rounds.{Asking, GoesOn, RoundBy, RoundsBy, Waiting}
use Rattle.agent_rounds.proofs.RunLemmas.{leads_beside, leads_on, leads_out}

module _ (asks : Asking) (waits : Waiting) (may : CustomMessage → Option CustomMessage → Type 0) (are : CustomCapabilities → Type 0) (rounds done : ℕ) (start now : Moment) where
  -- so many rounds led here: what the others lead to, all of them lead to
  abbrev pub Continues : Type 0
  Continues = (final : Moment) (result : Result ℕ AgentEnd) → Leads (RoundsBy asks waits may are (rounds - done) done) now final result → Leads (RoundsBy asks waits may are rounds 0) start final result

-- none was done
pub continues_first : (asks : Asking) (waits : Waiting) (may : CustomMessage → Option CustomMessage → Type 0) (are : CustomCapabilities → Type 0) (rounds : ℕ) (start : Moment) → Continues asks waits may are rounds 0 start start
continues_first asks waits may are rounds start =
    let none : rounds - 0 ≡ rounds = omega arith in
    λ final result all. subst (λ left. Leads (RoundsBy asks waits may are left 0) start final result) none all

module _ (asks : Asking) (waits : Waiting) (may : CustomMessage → Option CustomMessage → Type 0) (are : CustomCapabilities → Type 0) (rounds done : ℕ) (start now : Moment) (within : done < rounds)
    (so_far : Continues asks waits may are rounds done start now) where
  one_more : rounds - done ≡ suc (rounds - (done + 1))
  one_more = omega (arith, within)

  -- one more was done
  pub continues_on : (next : Moment) → Leads (RoundBy asks waits may are) now next (Ok false) → Continues asks waits may are rounds (done + 1) start next
  continues_on next one =
      λ final result more. so_far final result
      (subst (λ left. Leads (RoundsBy asks waits may are left done) now final result) (sym one_more)
      (leads_on (RoundBy asks waits may are) (GoesOn done (RoundsBy asks waits may are (rounds - (done + 1)) (done + 1))) now next final false result one more))

  -- a restart was commanded
  pub ends_restarting : (next : Moment) → FitsDisk next.disk next.agent.store (kept_part next.agent.half) → Leads (RoundBy asks waits may are) now next (Ok true)
      → Leads (RoundsBy asks waits may are rounds 0) start next (Ok (done + 1))
  ends_restarting next fits one =
      so_far next (Ok (done + 1))
      (subst (λ left. Leads (RoundsBy asks waits may are left done) now next (Ok (done + 1))) (sym one_more)
      (leads_on (RoundBy asks waits may are) (GoesOn done (RoundsBy asks waits may are (rounds - (done + 1)) (done + 1))) now next next true (Ok (done + 1)) one
      (leads_beside (GoesOn done (RoundsBy asks waits may are (rounds - (done + 1)) (done + 1)) true) next next (Ok (done + 1)) fits refl refl refl (λ keeps. (refl, refl)))))

  -- a round ended the run
  pub ends_within : (next : Moment) (end : AgentEnd) → Leads (RoundBy asks waits may are) now next (Err end) → Leads (RoundsBy asks waits may are rounds 0) start next (Err end)
  ends_within next end one =
      so_far next (Err end)
      (subst (λ left. Leads (RoundsBy asks waits may are left done) now next (Err end)) (sym one_more)
      (leads_out (RoundBy asks waits may are) (GoesOn done (RoundsBy asks waits may are (rounds - (done + 1)) (done + 1))) now next end one))

-- all were done
pub ends_spent : (asks : Asking) (waits : Waiting) (may : CustomMessage → Option CustomMessage → Type 0) (are : CustomCapabilities → Type 0) (rounds done : ℕ) (start now : Moment) → rounds - done ≡ 0
    → FitsDisk now.disk now.agent.store (kept_part now.agent.half) → Continues asks waits may are rounds done start now
    → Leads (RoundsBy asks waits may are rounds 0) start now (Err RoundsSpent)
ends_spent asks waits may are rounds done start now none fits so_far =
    so_far now (Err RoundsSpent)
    (subst (λ left. Leads (RoundsBy asks waits may are left done) now now (Err RoundsSpent)) (sym none)
    (leads_beside (RoundsBy asks waits may are 0 done) now now (Err RoundsSpent) fits refl refl refl (λ keeps. (refl, refl))))
