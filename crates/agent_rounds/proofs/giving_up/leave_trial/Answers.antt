use Rattle.std.proofs.Common.{◌≡◌, List, true, Ok, refl, sym, subst}
use Rattle.std.specs.Prelude.{is_some}
use Rattle.agent_rules.specs.Keeping.{Call, AbandonTry}
use Rattle.agent_rounds.specs.Moments.{with_agent}
use Rattle.agent_rounds.specs.Stages.{MakesCalls}
use Rattle.agent_rounds.proofs.TrialLemmas.{alone, leaves_trial, made}
use Rattle.agent_rounds.proofs.giving_up.leave_trial.Goals as goal

pub returns-clause-does : goal.returns-clause-does
returns-clause-does c = λ s.
    let a = c.args.agent.now in
    let b = c.abandon_try.new.self in
    let tries : is_some a.half.trial ≡ true = cc in
    subst (λ (calls : List Call). MakesCalls calls (with_agent a s) (with_agent b s) (Ok tt)) (sym (leaves_trial a.half tries))
    (alone AbandonTry (with_agent a s) (with_agent b s) (made AbandonTry a b s refl c.abandon_try.ensures.left))
