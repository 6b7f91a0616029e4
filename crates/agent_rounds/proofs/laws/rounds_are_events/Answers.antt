use Rattle.message_handlers.specs.Asking.{MayAnswer}
use Rattle.message_handlers.specs.Names.{IsOrdered, names_of}
use Rattle.agent_rounds.proofs.EventLemmas.{pushed_is_events, round_is_events}
use Rattle.agent_rounds.proofs.laws.rounds_are_events.Goals as goal

pub returns-clause-round : goal.returns-clause-round
returns-clause-round g c =
    round_is_events (MayAnswer (λ b. (goal.Handler-dyn g b).answers b.1) c.args.handlers.now) (λ names. IsOrdered (names_of c.args.handlers.now) names.capabilities)

pub returns-clause-pushed : goal.returns-clause-pushed
returns-clause-pushed g c =
    pushed_is_events (MayAnswer (λ b. (goal.Handler-dyn g b).answers b.1) c.args.handlers.now) (λ names. IsOrdered (names_of c.args.handlers.now) names.capabilities)
