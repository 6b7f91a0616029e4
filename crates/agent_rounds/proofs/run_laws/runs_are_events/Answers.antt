use Rattle.message_handlers.specs.Asking.{MayAnswer}
use Rattle.message_handlers.specs.Names.{IsOrdered, names_of}
use Rattle.agent_rounds.specs.Replies.{EndsWith}
use Rattle.agent_rounds.specs.Rounds.{AsksServer}
use Rattle.agent_rounds.proofs.EventLemmas.{server_asks, wait_still}
use Rattle.agent_rounds.proofs.RunEventLemmas.{round_ends, rounds_ended, rounds_joined, rounds_restarted}
use Rattle.agent_rounds.proofs.run_laws.runs_are_events.Goals as goal

pub returns-clause-restarted : goal.returns-clause-restarted
returns-clause-restarted g c =
    rounds_restarted AsksServer EndsWith server_asks wait_still (MayAnswer (λ b. (goal.Handler-dyn g b).answers b.1) c.args.handlers.now) (λ names. IsOrdered (names_of c.args.handlers.now) names.capabilities)

pub returns-clause-ended : goal.returns-clause-ended
returns-clause-ended g c =
    rounds_ended AsksServer EndsWith server_asks wait_still (MayAnswer (λ b. (goal.Handler-dyn g b).answers b.1) c.args.handlers.now) (λ names. IsOrdered (names_of c.args.handlers.now) names.capabilities)

pub returns-clause-within : goal.returns-clause-within
returns-clause-within g c =
    round_ends AsksServer EndsWith server_asks wait_still (MayAnswer (λ b. (goal.Handler-dyn g b).answers b.1) c.args.handlers.now) (λ names. IsOrdered (names_of c.args.handlers.now) names.capabilities)

pub returns-clause-joined : goal.returns-clause-joined
returns-clause-joined g c =
    rounds_joined AsksServer EndsWith server_asks wait_still (MayAnswer (λ b. (goal.Handler-dyn g b).answers b.1) c.args.handlers.now) (λ names. IsOrdered (names_of c.args.handlers.now) names.capabilities)
