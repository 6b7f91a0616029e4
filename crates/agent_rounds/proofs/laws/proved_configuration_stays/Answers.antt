use Rattle.message_handlers.specs.Asking.{MayAnswer}
use Rattle.message_handlers.specs.Names.{IsOrdered, names_of}
use Rattle.message_values.specs.declared.custom.CustomCapabilities.{CustomCapabilities}
use Rattle.agent_rounds.specs.Listening.{AsksQuietServer, ListensWith}
use Rattle.agent_rounds.specs.Replies.{EndsWith}
use Rattle.agent_rounds.specs.Rounds.{AsksServer}
use Rattle.agent_rounds.proofs.CalmLemmas.{ends_calm, heeds_calm, quiet_calm, server_calm}
use Rattle.agent_rounds.proofs.CarryLemmas.{round_keeps, rounds_keep}
use Rattle.agent_rounds.proofs.laws.proved_configuration_stays.Goals as goal

pub returns-clause-round : goal.returns-clause-round
returns-clause-round g c = λ s t seconds result asked ran.
    round_keeps AsksServer EndsWith server_calm ends_calm (MayAnswer (λ b. (goal.Handler-dyn g b).answers b.1) c.args.handlers.now) (λ (names : CustomCapabilities). IsOrdered (names_of c.args.handlers.now) names.capabilities) seconds s t result asked ran

pub returns-clause-rounds : goal.returns-clause-rounds
returns-clause-rounds g c = λ left done s t seconds result asked ran.
    rounds_keep AsksServer EndsWith server_calm ends_calm (MayAnswer (λ b. (goal.Handler-dyn g b).answers b.1) c.args.handlers.now) (λ (names : CustomCapabilities). IsOrdered (names_of c.args.handlers.now) names.capabilities) seconds left done s t result asked ran

pub returns-clause-pushed_round : goal.returns-clause-pushed_round
returns-clause-pushed_round g c = λ s t seconds result asked ran.
    round_keeps AsksQuietServer ListensWith quiet_calm heeds_calm (MayAnswer (λ b. (goal.Handler-dyn g b).answers b.1) c.args.handlers.now) (λ (names : CustomCapabilities). IsOrdered (names_of c.args.handlers.now) names.capabilities) seconds s t result asked ran

pub returns-clause-pushed_rounds : goal.returns-clause-pushed_rounds
returns-clause-pushed_rounds g c = λ left done s t seconds result asked ran.
    rounds_keep AsksQuietServer ListensWith quiet_calm heeds_calm (MayAnswer (λ b. (goal.Handler-dyn g b).answers b.1) c.args.handlers.now) (λ (names : CustomCapabilities). IsOrdered (names_of c.args.handlers.now) names.capabilities) seconds left done s t result asked ran
