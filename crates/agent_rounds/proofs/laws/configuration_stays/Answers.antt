use Rattle.std.proofs.Common.{true}
use Rattle.message_handlers.specs.Asking.{MayAnswer}
use Rattle.message_handlers.specs.Names.{IsOrdered, names_of}
use Rattle.agent_rounds.specs.Listening.{AsksQuietServer, ListensWith}
use Rattle.agent_rounds.specs.Replies.{EndsWith}
use Rattle.agent_rounds.specs.Rounds.{AsksServer}
use Rattle.agent_rounds.proofs.AreaLemmas.{first_due, round_former, round_leaves, rounds_leave, server_keeps, wait_keeps}
use Rattle.agent_rounds.proofs.ListeningLemmas.{heeded_stands, quiet_stands}
use Rattle.agent_rounds.proofs.laws.configuration_stays.Goals as goal

pub returns-clause-round : goal.returns-clause-round
returns-clause-round g c =
    round_leaves AsksServer EndsWith (server_keeps true) wait_keeps (MayAnswer (λ b. (goal.Handler-dyn g b).answers b.1) c.args.handlers.now) (λ names. IsOrdered (names_of c.args.handlers.now) names.capabilities)

pub returns-clause-former : goal.returns-clause-former
returns-clause-former g c =
    round_former AsksServer EndsWith (server_keeps true) wait_keeps (MayAnswer (λ b. (goal.Handler-dyn g b).answers b.1) c.args.handlers.now) (λ names. IsOrdered (names_of c.args.handlers.now) names.capabilities)

pub returns-clause-rounds : goal.returns-clause-rounds
returns-clause-rounds g c =
    rounds_leave AsksServer EndsWith (server_keeps true) wait_keeps (MayAnswer (λ b. (goal.Handler-dyn g b).answers b.1) c.args.handlers.now) (λ names. IsOrdered (names_of c.args.handlers.now) names.capabilities)

pub returns-clause-pushed_round : goal.returns-clause-pushed_round
returns-clause-pushed_round g c =
    round_leaves AsksQuietServer ListensWith quiet_stands heeded_stands (MayAnswer (λ b. (goal.Handler-dyn g b).answers b.1) c.args.handlers.now) (λ names. IsOrdered (names_of c.args.handlers.now) names.capabilities)

pub returns-clause-pushed_former : goal.returns-clause-pushed_former
returns-clause-pushed_former g c =
    round_former AsksQuietServer ListensWith quiet_stands heeded_stands (MayAnswer (λ b. (goal.Handler-dyn g b).answers b.1) c.args.handlers.now) (λ names. IsOrdered (names_of c.args.handlers.now) names.capabilities)

pub returns-clause-pushed_rounds : goal.returns-clause-pushed_rounds
returns-clause-pushed_rounds g c =
    rounds_leave AsksQuietServer ListensWith quiet_stands heeded_stands (MayAnswer (λ b. (goal.Handler-dyn g b).answers b.1) c.args.handlers.now) (λ names. IsOrdered (names_of c.args.handlers.now) names.capabilities)

pub returns-clause-begins : goal.returns-clause-begins
returns-clause-begins g c = first_due
