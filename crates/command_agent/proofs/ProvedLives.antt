-- What an agent's life leaves over several starts where the collector proves configurations.
use Rattle.std.proofs.Common.{◌≡◌, ◌⊎◌, ℕ, List, [], ◌∷◌, ◌++◌, Bool, true, false, Option, None, Some, Result, inl, inr, refl, sym, ◌∙◌, ap, subst, arith}
use Rattle.std.specs.Prelude.{Contains, IsSome}
use Rattle.std.proofs.lemmas.Bool.{false≢true}
use Rattle.std.proofs.lemmas.List.Elements.{Contains-append_right}
use Rattle.plain_values.specs.declared.files.AgentConfigMap.{AgentConfigMap}
use Rattle.message_values.specs.declared.custom.CustomCapabilities.{CustomCapabilities}
use Rattle.message_values.specs.declared.custom.CustomMessage.{CustomMessage}
use Rattle.message_handlers.specs.Names.{IsOrdered}
use Rattle.agent_store.specs.declared.opened.Opened.{Opened}
use Rattle.agent_rules.specs.declared.saved.Saved.{Saved}
use Rattle.agent_rules.specs.Half.{AgentHalf, kept_part}
use Rattle.agent_rounds.specs.declared.ends.AgentEnd.{AgentEnd}
use Rattle.agent_rounds.specs.Lives.{IsOneOf}
use Rattle.agent_rounds.specs.Listening.{PushedRounds}
use Rattle.agent_rounds.specs.Moments.{stage_at, with_saves}
use Rattle.agent_rounds.specs.Proving.{KeepsFormerOrProved}
use Rattle.agent_rounds.specs.Rounds.{AgentRounds, RoundsBy}
use Rattle.agent_rounds.specs.Stages.{Stage}
use Rattle.command_agent.specs.Lives.{AllProve, Follows, IsLeftBy, IsLife, OneProves, ProvesConfig, Run, last_run}
use Rattle.command_agent.specs.Running.{asking_of, first_moment, last_moment, waiting_of}
use Rattle.command_agent.specs.Starting.{first_half}
use Rattle.command_agent.proofs.LifeLemmas.{kept_is}

asked_of : (prove : Option ℕ) → IsSome prove → (seconds : ℕ) × (prove ≡ Some seconds)
asked_of None some = absurd (false≢true some)
asked_of (Some seconds) some = (seconds, refl)

-- one that is left is the first, or among those that followed it
one_kept : (first : Option Saved) (saves : List Saved) (part : Saved) → IsOneOf first saves (Some part) → (first ≡ Some part) ⊎ Contains saves part
one_kept first [] part is = inl (sym is)
one_kept first (next ∷ rest) part (inl is) = inl (sym is)
one_kept first (next ∷ rest) part (inr later) = inr (elim (one_kept (Some next) rest part later) [
  | inl is ↦ (0, omega arith, (let same : next ≡ part = cc in same))
  | inr among ↦ Contains-append_right (next ∷ []) rest part among
])

module _ (handlers : List (List ℕ)) (may : CustomMessage → Option CustomMessage → Type 0) where
  abbrev are : CustomCapabilities → Type 0
  are names = IsOrdered handlers names.capabilities

  -- what a run begins with that follows another
  begun : (run next : Run handlers may) (follows : Follows run next) → next.runs.first.half.saved.config ≡ follows.found.config
  begun run next follows =
      let starts = next.runs.starts in
      ap (λ (a : AgentHalf). a.saved.config) (starts.half ∙ ap (λ (o : Opened Saved). first_half next.options starts.names o starts.uid) follows.kept)

  module _ (plain : (left done : ℕ) (s t : Stage) (seconds : ℕ) (result : Result ℕ AgentEnd) → s.held.prove ≡ Some seconds → AgentRounds may are left done s t result → KeepsFormerOrProved s t result)
      (pushed : (left done : ℕ) (s t : Stage) (seconds : ℕ) (result : Result ℕ AgentEnd) → s.held.prove ≡ Some seconds → PushedRounds may are left done s t result → KeepsFormerOrProved s t result) where
    rounds_keep : (push : Bool) (left : ℕ) (s t : Stage) (seconds : ℕ) (result : Result ℕ AgentEnd) → s.held.prove ≡ Some seconds
        → RoundsBy (asking_of push) (waiting_of push) may are left 0 s t result → KeepsFormerOrProved s t result
    rounds_keep true left = pushed left 0
    rounds_keep false left = plain left 0

    -- what one run keeps
    run_keeps : (run : Run handlers may) (part : Saved) → IsSome run.options.prove → Contains (run.runs.rounds []).saves part
        → (part.config ≡ run.runs.first.half.saved.config) ⊎ ProvesConfig run part.config
    run_keeps run part some among =
        let begin : Stage = stage_at (first_moment run.options run.old run.runs.loaded run.runs.first) [] in
        let rounds = run.runs.rounds [] in
        let end : Stage = with_saves rounds.saves (stage_at (last_moment run.new run.runs.last run.runs.held) []) in
        let asked = asked_of run.options.prove some in
        let keeps = rounds_keep run.options.push run.options.rounds begin end asked.0 run.result asked.1 rounds.does in
        keeps.each part (subst (λ (saves : List Saved). Contains saves part) keeps.joins among)

    -- what is left of it
    run_leaves : (run : Run handlers may) (part : Saved) → IsSome run.options.prove → IsLeftBy run (Some part)
        → (part.config ≡ run.runs.first.half.saved.config) ⊎ ProvesConfig run part.config
    run_leaves run part some is = elim (one_kept (kept_part run.runs.first.half) (run.runs.rounds []).saves part is) [
      | inl first ↦ inl (sym (ap (λ (s : Saved). s.config) (kept_is run.runs.first.half.is_kept run.runs.first.half.saved part first).1))
      | inr among ↦ run_keeps run part some among
    ]

    pub life_leaves : (run : Run handlers may) (rest : List (Run handlers may)) (part : Saved) → IsLife run rest → AllProve run rest → IsLeftBy (last_run run rest) (Some part)
        → (part.config ≡ run.runs.first.half.saved.config) ⊎ OneProves run rest part.config
    life_leaves run [] part life all is = run_leaves run part all is
    life_leaves run (next ∷ rest) part life all is = elim (life_leaves next rest part life.1 all.1 is) [
      | inl former ↦ earlier (former ∙ begun run next life.0)
      | inr proved ↦ inr (inr proved)
    ]
      where
        earlier : part.config ≡ life.0.found.config → (part.config ≡ run.runs.first.half.saved.config) ⊎ OneProves run (next ∷ rest) part.config
        earlier same = elim (run_leaves run life.0.found all.0 life.0.left) [
          | inl former ↦ inl (same ∙ former)
          | inr proved ↦ inr (inl (subst (λ (config : AgentConfigMap). ProvesConfig run config) (sym same) proved))
        ]
