-- The rounds of a run are events, one after another, and the round that ends it begins with them.
use Rattle.std.proofs.Common.{◌≡◌, ◌≤◌, ℕ, zero, suc, List, [], ◌∷◌, ◌++◌, ◌⊎◌, Bool, true, false, Option, Ok, Err, refl, sym, ◌∙◌, ap, inl, inr, arith, append_assoc}
use Rattle.std.specs.Prelude.{◌+◌}
use Rattle.message_values.specs.declared.custom.CustomCapabilities.{CustomCapabilities}
use Rattle.message_values.specs.declared.custom.CustomMessage.{CustomMessage}
use Rattle.message_values.specs.declared.reply.ServerToAgent.{ServerToAgent}
use Rattle.agent_rules.specs.declared.saved.Saved.{Saved}
use Rattle.agent_rules.specs.declared.rules.parts.LocalState.{LocalState}
use Rattle.agent_rules.specs.Half.{AgentHalf}
use Rattle.agent_rules.specs.Keeping.{Report}
use Rattle.agent_rules.specs.Events.{AgentEvent, Changes, Reports, agent_after, agent_run, saves_in}
use Rattle.agent_rounds.specs.declared.ends.AgentEnd.{AgentEnd}
use Rattle.agent_rounds.specs.declared.ends.AgentEnd.TheVariants.{RoundsSpent}
use Rattle.agent_rounds.specs.declared.ends.Pause.{Pause}
use Rattle.agent_rounds.specs.Replies.{DealsWith}
use Rattle.agent_rounds.specs.Stages.{Stage, Then}
use Rattle.agent_rounds.specs.Rounds.{Asking, GoesOn, Prepares, RoundBy, RoundsBy, Waiting}
use Rattle.agent_rounds.specs.RoundEvents.{Happens, HappensAsRound, round_events, saves_of_events}
use Rattle.agent_rounds.specs.RunEvents.{AreRounds, EndsInRound, EndsRun, HappensInRounds}
use Rattle.agent_rounds.proofs.EventLemmas.{AsksOf, StaysStill, Still, change_happens, dealt_round, happens_none, informed, made_one, report_happens, round_happens, still_at}

-- ---- events joined

pub run_append : (xs ys : List AgentEvent) (a : AgentHalf) → agent_run (xs ++ ys) a ≡ agent_run ys (agent_run xs a)
run_append [] ys a = refl
run_append (x ∷ xs) ys a = run_append xs ys (agent_after a x)

pub saves_append : (xs ys : List AgentEvent) (a : AgentHalf) → saves_of_events (xs ++ ys) a ≡ saves_of_events xs a ++ saves_of_events ys (agent_run xs a)
saves_append [] ys a = refl
saves_append (x ∷ xs) ys a =
    ap (λ (k : List Saved). saves_in a x ++ k) (saves_append xs ys (agent_after a x))
    ∙ sym (append_assoc (saves_in a x) (saves_of_events xs (agent_after a x)) (saves_of_events ys (agent_run xs (agent_after a x))))

pub happens_append : (xs ys : List AgentEvent) (s m t : Stage) → Happens xs s m → Happens ys m t → Happens (xs ++ ys) s t
happens_append xs ys s m t p q = record {
  half = q.half ∙ (ap (agent_run ys) p.half ∙ sym (run_append xs ys s.half));
  keeps = q.keeps
      ∙ (ap (λ (k : List Saved). k ++ saves_of_events ys m.half) p.keeps
      ∙ (ap (λ (a : AgentHalf). (s.keeps ++ saves_of_events xs s.half) ++ saves_of_events ys a) p.half
      ∙ (append_assoc s.keeps (saves_of_events xs s.half) (saves_of_events ys (agent_run xs s.half)) ∙ ap (λ (k : List Saved). s.keeps ++ k) (sym (saves_append xs ys s.half)))));
}

-- behind what makes no call
happens_then : (events : List AgentEvent) (s m t : Stage) → Happens events s m → Still m t → Happens events s t
happens_then events s m t happens still = record { half = still.0 ∙ happens.half; keeps = still.1 ∙ happens.keeps }

module _ (asks : Asking) (waits : Waiting) (asking : AsksOf asks) (waiting : (pause : Pause) → StaysStill (waits pause)) (may : CustomMessage → Option CustomMessage → Type 0) (are : CustomCapabilities → Type 0) where
  -- ---- the round that ends a run

  -- from where its report was made
  asked_ends : (s t : Stage) (end : AgentEnd) (bytes : List ℕ) (p : Stage) → Prepares are s p (Ok bytes) → (now : LocalState) → Happens (Changes now ∷ Reports ∷ []) s p
      → asks bytes p t (Err end) ⊎ ((q : Stage) × ((reply : Option ServerToAgent) × (asks bytes p q (Ok reply) × Then (DealsWith may reply) waits q t (Err end))))
      → EndsInRound asks waits may are s t end
  asked_ends s t end bytes p prepared now told (inl asked) = inr (inr (inl (p, now, bytes, told, asked)))
  asked_ends s t end bytes p prepared now told (inr (q, (reply, (asked, inl dealt)))) =
      inr (inr (inr (inl (q, now, reply, happens_then (Changes now ∷ Reports ∷ []) s p q told (asking.still bytes p q reply asked), dealt))))
  asked_ends s t end bytes p prepared now told (inr (q, (reply, (asked, inr (d, (pause, (dealt, waited))))))) =
      inr (inr (inr (inr (d, pause, dealt_round asks waits asking waiting may are s d bytes p prepared q reply asked d pause dealt (refl, refl), waited))))

  pub round_ends : (s t : Stage) (end : AgentEnd) → RoundBy asks waits may are s t (Err end) → EndsInRound asks waits may are s t end
  round_ends s t end (inl (inl informs)) = inl informs
  round_ends s t end (inl (inr (i, (done, (informs, reports))))) =
      let learned = informed asks waits asking waiting may are s i done informs in
      inr (inl (i, learned.0, change_happens learned.0 [] s i i learned.1.0 (happens_none i i (refl, refl)), reports))
  round_ends s t end (inr (p, (bytes, ((i, (done, (informs, reports))), rest)))) =
      let learned = informed asks waits asking waiting may are s i done informs in
      asked_ends s t end bytes p (i, (done, (informs, reports))) learned.0
      (change_happens learned.0 (Reports ∷ []) s i p learned.1.0 (report_happens [] i p p reports.1 (made_one Report i p reports.2) (happens_none p p (refl, refl)))) rest

  -- ---- rounds, one after another

  pub rounds_joined : (n : ℕ) (s t : Stage) → HappensInRounds asks waits may are n s t → (events : List AgentEvent) × AreRounds n events × Happens events s t
  rounds_joined zero s t happens = ([], refl, happens)
  rounds_joined (suc n) s t rounds =
      let rest = rounds_joined n rounds.0 t rounds.2 in
      let first = round_events rounds.1.round.now rounds.1.round.heard in
      (first ++ rest.0, (rounds.1.round.now, rounds.1.round.heard, rest.0, refl, rest.1), happens_append first rest.0 s rounds.0 t rounds.1.round.happens rest.2)

  pub rounds_restarted : (left done n : ℕ) (s t : Stage) → RoundsBy asks waits may are left done s t (Ok n) → (k : ℕ) × (n ≡ done + k) × (k ≤ left) × HappensInRounds asks waits may are k s t
  rounds_restarted zero done n s t ended = absurd (cc ended.1)
  rounds_restarted (suc left) done n s t (m, (restart, (round, goes))) = by_restart restart round goes (λ more. rounds_restarted left (done + 1) n m t more)
    where
      by_restart : (b : Bool) → RoundBy asks waits may are s m (Ok b) → GoesOn done (RoundsBy asks waits may are left (done + 1)) b m t (Ok n)
          → (RoundsBy asks waits may are left (done + 1) m t (Ok n) → (k : ℕ) × (n ≡ (done + 1) + k) × (k ≤ left) × HappensInRounds asks waits may are k m t)
          → (k : ℕ) × (n ≡ done + k) × (k ≤ suc left) × HappensInRounds asks waits may are k s t
      by_restart true round gives more =
          let one : n ≡ done + 1 = cc gives.1 in
          (suc zero, omega (arith, one), omega arith, (m, round_happens asks waits asking waiting may are s m true round, happens_none m t (still_at m t gives.0)))
      by_restart false round goes more =
          let rest = more goes in
          (suc rest.0, omega (arith, rest.1), omega (arith, rest.2), (m, round_happens asks waits asking waiting may are s m false round, rest.3))

  pub rounds_ended : (left done : ℕ) (s t : Stage) (end : AgentEnd) → RoundsBy asks waits may are left done s t (Err end) → EndsRun asks waits may are left s t end
  rounds_ended zero done s t end ended = let spent : end ≡ RoundsSpent = cc ended.1 in inl (happens_none s t (still_at s t ended.0), spent)
  rounds_ended (suc left) done s t end (inl round) = inr (zero, omega arith, s, happens_none s s (refl, refl), round)
  rounds_ended (suc left) done s t end (inr (m, (restart, (round, goes)))) = by_restart restart round goes (λ more. rounds_ended left (done + 1) m t end more)
    where
      further : HappensAsRound asks waits may are s m → EndsRun asks waits may are left m t end → EndsRun asks waits may are (suc left) s t end
      further first (inl all) = inl ((m, first, all.0), all.1)
      further first (inr more) = inr (suc more.0, omega (arith, more.1), more.2, (m, first, more.3), more.4)

      by_restart : (b : Bool) → RoundBy asks waits may are s m (Ok b) → GoesOn done (RoundsBy asks waits may are left (done + 1)) b m t (Err end)
          → (RoundsBy asks waits may are left (done + 1) m t (Err end) → EndsRun asks waits may are left m t end) → EndsRun asks waits may are (suc left) s t end
      by_restart true round gives more = absurd (cc gives.1)
      by_restart false round goes more = further (round_happens asks waits asking waiting may are s m false round) (more goes)
