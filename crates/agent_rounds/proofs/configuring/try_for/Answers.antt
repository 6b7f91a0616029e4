use Rattle.std.proofs.Common.{◌≡◌, ◌∙◌, Bool, true, Some, Err, refl, sym, subst}
use Rattle.std.specs.Prelude.{codes}
use Rattle.plain_values.specs.declared.files.AgentConfigMap.{AgentConfigMap}
use Rattle.agent_config.specs.Config.{as_offer}
use Rattle.agent_rules.specs.Half.{no_config}
use Rattle.agent_rules.specs.Keeping.{fits}
use Rattle.agent_rules.specs.Offers.{applied_call, failed_call}
use Rattle.agent_state.specs.View.{AgentView}
use Rattle.agent_rounds.specs.Moments.{RunsPart, held_view, with_agent, with_clock, with_folder, with_held, with_saves}
use Rattle.agent_rounds.specs.declared.ends.AgentEnd.TheVariants.{NoMemory}
use Rattle.agent_rounds.specs.declared.proving.Trial.{Trial}
use Rattle.agent_rounds.specs.Proving.{name_of}
use Rattle.agent_rounds.specs.Replies.{TriesBy, TriesFor}
use Rattle.agent_rounds.specs.Stages.{MakesCall}
use Rattle.agent_rounds.proofs.ConfigLemmas.{wanting_tries}
use Rattle.agent_rounds.proofs.RunLemmas.{run_beside}
use Rattle.agent_rounds.proofs.configuring.try_for.Goals as goal

-- what is so of the agent and the files behind the measuring is so of those before
before : (a b : AgentView) (x y : AgentConfigMap) (P : AgentView → AgentConfigMap → Type 0) → a ≡ b → x ≡ y → P a x → P b y
before a b x y P agent files so = subst (λ (v : AgentView). P v y) agent (subst (λ (f : AgentConfigMap). P a f) files so)

pub returns-in-Ok-true-clause-does : goal.returns-in-Ok-true-clause-does
returns-in-Ok-true-clause-does g c = λ number s.
    let rest = with_held (held_view number c.args.held.now) (with_folder (g.F.Folder.state c.args.folder.now) (with_clock (g.C.Clock.state c.args.clock.now) s)) in
    let trial = λ (a : AgentView) (files : AgentConfigMap). (let t : Trial = record { seconds = c.args.seconds; name = name_of a.half (as_offer files c.args.hash.now) } in t) in
    let h = with_agent c.try_roomy.new.agent (with_held (held_view number c.try_roomy.new.held) (with_folder (g.F.Folder.state c.try_roomy.new.folder) (with_clock (g.C.Clock.state c.try_roomy.new.clock) s))) in
    let run = before c.has_room.new.agent c.args.agent.now c.has_room.new.files c.args.files
    (λ a files. RunsPart (TriesBy true (trial a files) (as_offer files c.args.hash.now)) (g.D.Disk.state c.args.disk.now) (g.D.Disk.state c.try_roomy.new.disk) (with_agent a rest) h c.try_roomy.result)
    c.has_room.ensures.agent c.has_room.ensures.files (c.try_roomy.ensures.does number s) in
    record {
      saves = run.saves;
      does = subst (λ (fit : Bool). TriesBy fit (trial c.args.agent.now c.args.files) (as_offer c.args.files c.args.hash.now) (with_agent c.args.agent.now rest) (with_saves run.saves h) c.try_roomy.result)
          (sym c.in-Ok-true.field-0-test ∙ c.in-Ok-true.ensures.room) run.does;
      images = run.images;
    }

pub returns-in-Ok-false-clause-does : goal.returns-in-Ok-false-clause-does
returns-in-Ok-false-clause-does g c = λ number s.
    let rest = with_held (held_view number c.args.held.now) (with_folder (g.F.Folder.state c.args.folder.now) (with_clock (g.C.Clock.state c.args.clock.now) s)) in
    let trial : Trial = record { seconds = c.args.seconds; name = name_of c.args.agent.now.half (as_offer c.args.files c.args.hash.now) } in
    let h = with_agent c.keep_failure.new.agent rest in
    let run = subst (λ (a : AgentView). RunsPart (MakesCall (failed_call (as_offer no_config c.args.hash.now) (codes "too large"))) (g.D.Disk.state c.args.disk.now) (g.D.Disk.state c.keep_failure.new.disk) (with_agent a rest) h c.keep_failure.result)
    c.has_room.ensures.agent (c.keep_failure.ensures.does rest) in
    record {
      saves = run.saves;
      does = subst (λ (fit : Bool). TriesBy fit trial (as_offer c.args.files c.args.hash.now) (with_agent c.args.agent.now rest) (with_saves run.saves h) c.keep_failure.result)
          (sym c.in-Ok-false.field-0-test ∙ c.in-Ok-false.ensures.room) run.does;
      images = run.images;
    }

pub returns-in-Err-clause-does : goal.returns-in-Err-clause-does
returns-in-Err-clause-does g c = λ number s.
    let rest = with_held (held_view number c.args.held.now) (with_folder (g.F.Folder.state c.args.folder.now) (with_clock (g.C.Clock.state c.args.clock.now) s)) in
    let trial : Trial = record { seconds = c.args.seconds; name = name_of c.args.agent.now.half (as_offer c.args.files c.args.hash.now) } in
    let f = with_agent c.args.agent.now rest in
    subst (λ (a : AgentView). RunsPart (TriesFor (Some c.args.seconds) (as_offer c.args.files c.args.hash.now)) (g.D.Disk.state c.args.disk.now) (g.D.Disk.state c.args.disk.now) f (with_agent a rest) (Err NoMemory))
    (sym c.has_room.ensures.agent)
    (run_beside (TriesFor (Some c.args.seconds) (as_offer c.args.files c.args.hash.now)) (g.D.Disk.state c.args.disk.now) f f (Err NoMemory) c.requires.fits refl refl refl
    (wanting_tries (fits c.args.agent.now.half (applied_call (as_offer c.args.files c.args.hash.now))) trial (as_offer c.args.files c.args.hash.now) f))
