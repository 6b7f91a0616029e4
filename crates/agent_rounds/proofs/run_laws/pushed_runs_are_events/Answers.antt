use Rattle.message_handlers.specs.Asking.{MayAnswer}
use Rattle.message_handlers.specs.Names.{IsOrdered, names_of}
use Rattle.agent_rounds.specs.Listening.{AsksQuietServer, ListensWith}
use Rattle.agent_rounds.proofs.EventLemmas.{quiet_asks, listen_still}
use Rattle.agent_rounds.proofs.RunEventLemmas.{round_ends, rounds_ended, rounds_joined, rounds_restarted}
use Rattle.agent_rounds.proofs.run_laws.pushed_runs_are_events.Goals as goal

pub returns-clause-restarted : goal.returns-clause-restarted
returns-clause-restarted g c =
    rounds_restarted AsksQuietServer ListensWith quiet_asks listen_still (MayAnswer (λ b. (goal.Handler-dyn g b).answers b.1) c.args.handlers.now) (λ names. IsOrdered (names_of c.args.handlers.now) names.capabilities)

pub returns-clause-ended : goal.returns-clause-ended
returns-clause-ended g c =
    rounds_ended AsksQuietServer ListensWith quiet_asks listen_still (MayAnswer (λ b. (goal.Handler-dyn g b).answers b.1) c.args.handlers.now) (λ names. IsOrdered (names_of c.args.handlers.now) names.capabilities)

pub returns-clause-within : goal.returns-clause-within
returns-clause-within g c =
    round_ends AsksQuietServer ListensWith quiet_asks listen_still (MayAnswer (λ b. (goal.Handler-dyn g b).answers b.1) c.args.handlers.now) (λ names. IsOrdered (names_of c.args.handlers.now) names.capabilities)

pub returns-clause-joined : goal.returns-clause-joined
returns-clause-joined g c =
    rounds_joined AsksQuietServer ListensWith quiet_asks listen_still (MayAnswer (λ b. (goal.Handler-dyn g b).answers b.1) c.args.handlers.now) (λ names. IsOrdered (names_of c.args.handlers.now) names.capabilities)
