use Rattle.message_handlers.specs.Asking.{MayAnswer}
use Rattle.message_handlers.specs.Names.{IsOrdered, names_of}
use Rattle.agent_rounds.specs.Listening.{AsksQuietServer, ListensWith}
use Rattle.agent_rounds.specs.Replies.{EndsWith}
use Rattle.agent_rounds.specs.Rounds.{AsksServer}
use Rattle.agent_rounds.proofs.EventLemmas.{listen_still, quiet_asks, server_asks, wait_still}
use Rattle.agent_rounds.proofs.LifeLemmas.{listen_nothing, quiet_nothing, runs_happen, runs_leave, server_nothing, wait_nothing}
use Rattle.agent_rounds.proofs.run_laws.what_is_left_is_events.Goals as goal

pub returns-clause-plain : goal.returns-clause-plain
returns-clause-plain g c =
    runs_leave AsksServer EndsWith server_asks wait_still server_nothing wait_nothing (MayAnswer (λ b. (goal.Handler-dyn g b).answers b.1) c.args.handlers.now) (λ names. IsOrdered (names_of c.args.handlers.now) names.capabilities)

pub returns-clause-pushed : goal.returns-clause-pushed
returns-clause-pushed g c =
    runs_leave AsksQuietServer ListensWith quiet_asks listen_still quiet_nothing listen_nothing (MayAnswer (λ b. (goal.Handler-dyn g b).answers b.1) c.args.handlers.now) (λ names. IsOrdered (names_of c.args.handlers.now) names.capabilities)

pub returns-clause-whole : goal.returns-clause-whole
returns-clause-whole g c =
    runs_happen AsksServer EndsWith server_asks wait_still server_nothing wait_nothing (MayAnswer (λ b. (goal.Handler-dyn g b).answers b.1) c.args.handlers.now) (λ names. IsOrdered (names_of c.args.handlers.now) names.capabilities)

pub returns-clause-pushed_whole : goal.returns-clause-pushed_whole
returns-clause-pushed_whole g c =
    runs_happen AsksQuietServer ListensWith quiet_asks listen_still quiet_nothing listen_nothing (MayAnswer (λ b. (goal.Handler-dyn g b).answers b.1) c.args.handlers.now) (λ names. IsOrdered (names_of c.args.handlers.now) names.capabilities)
