use Rattle.message_handlers.specs.Asking.{MayAnswer}
use Rattle.message_handlers.specs.Names.{names_of}
use Rattle.command_agent.proofs.LifeLemmas.{image_left, life_ends, life_left, life_starts, run_follows}
use Rattle.command_agent.proofs.lives.lives_are_runs.Goals as goal

pub returns-clause-starts : goal.returns-clause-starts
returns-clause-starts g c =
    life_starts (names_of c.args.handlers.now) (MayAnswer (λ b. (goal.Handler-dyn g b).answers b.1) c.args.handlers.now)
    c.what_is_left_is_events.ensures.plain c.what_is_left_is_events.ensures.pushed

pub returns-clause-ends : goal.returns-clause-ends
returns-clause-ends g c =
    life_ends (names_of c.args.handlers.now) (MayAnswer (λ b. (goal.Handler-dyn g b).answers b.1) c.args.handlers.now)
    c.what_is_left_is_events.ensures.plain c.what_is_left_is_events.ensures.pushed c.what_is_left_is_events.ensures.whole c.what_is_left_is_events.ensures.pushed_whole

pub returns-clause-left : goal.returns-clause-left
returns-clause-left g c =
    life_left (names_of c.args.handlers.now) (MayAnswer (λ b. (goal.Handler-dyn g b).answers b.1) c.args.handlers.now)
    c.what_is_left_is_events.ensures.plain c.what_is_left_is_events.ensures.pushed

pub returns-clause-images : goal.returns-clause-images
returns-clause-images g c = image_left (names_of c.args.handlers.now) (MayAnswer (λ b. (goal.Handler-dyn g b).answers b.1) c.args.handlers.now)

pub returns-clause-found : goal.returns-clause-found
returns-clause-found g c = run_follows (names_of c.args.handlers.now) (MayAnswer (λ b. (goal.Handler-dyn g b).answers b.1) c.args.handlers.now)
