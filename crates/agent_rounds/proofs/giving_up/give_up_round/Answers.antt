use Rattle.std.proofs.Common.{◌∙◌, None, ap}
use Rattle.agent_rules.specs.declared.saved.Saved.{Saved}
use Rattle.agent_rounds.specs.Moments.{held_view, with_held}
use Rattle.agent_rounds.specs.Status.{pause_of, without_link}
use Rattle.agent_rounds.proofs.TrialLemmas.{round_given_up}
use Rattle.agent_rounds.proofs.giving_up.give_up_round.Goals as goal

pub returns-clause-does : goal.returns-clause-does
returns-clause-does g c = λ number s.
    round_given_up c.args.agent.now c.give_up.new.self c.leave_trial.new.agent (held_view number c.args.held.now) s c.give_up.ensures.given_up
    (c.leave_trial.ensures.does (with_held (without_link (held_view number c.args.held.now)) s))
    c.pause_of.result (c.pause_of.ensures.pause ∙ ap (λ (saved : Saved). pause_of saved.settings.interval None) c.saved.ensures.saved)
