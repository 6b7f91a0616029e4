use Rattle.std.proofs.Common.{ℕ, Option, None, Some, subst}
use Rattle.agent_rules.specs.declared.saved.Saved.{Saved}
use Rattle.agent_config.specs.Config.{as_offer}
use Rattle.agent_rounds.specs.Replies.{IsTriedFor}
use Rattle.agent_rounds.proofs.configuring.configure_files.Goals as goal

pub returns-in-Some-clause-does : goal.returns-in-Some-clause-does
returns-in-Some-clause-does g c = λ number s.
    let run = c.try_for.ensures.does number s in
    let is = subst (λ (tried : Option ℕ). IsTriedFor c.args.held.now.prove c.args.agent.now.half.saved.config (as_offer c.args.files c.args.hash.now) tried) c.in-Some.is
    (subst (λ (saved : Saved). IsTriedFor c.args.held.now.prove saved.config (as_offer c.args.files c.args.hash.now) c.seconds_for.result) c.saved.ensures.saved (c.seconds_for.ensures c.args.hash.now)) in
    record { saves = run.saves; does = (Some c.in-Some.seconds, (is, run.does)); images = run.images }

pub returns-in-None-clause-does : goal.returns-in-None-clause-does
returns-in-None-clause-does g c = λ number s.
    let run = c.bring_offer.ensures.does number s in
    let is = subst (λ (tried : Option ℕ). IsTriedFor c.args.held.now.prove c.args.agent.now.half.saved.config (as_offer c.args.files c.args.hash.now) tried) c.in-None.is
    (subst (λ (saved : Saved). IsTriedFor c.args.held.now.prove saved.config (as_offer c.args.files c.args.hash.now) c.seconds_for.result) c.saved.ensures.saved (c.seconds_for.ensures c.args.hash.now)) in
    record { saves = run.saves; does = (None, (is, run.does)); images = run.images }
