use Rattle.agent_rounds.specs.Moments.{held_view, with_held}
use Rattle.agent_rounds.specs.Replies.{unsettled}
use Rattle.agent_rounds.proofs.configuring.watch_trial.Goals as goal

pub returns-in-Ok-clause-does : goal.returns-in-Ok-clause-does
returns-in-Ok-clause-does g c = λ number s. c.in-Ok.ensures.watches (with_held (held_view number c.args.held.now) s)

pub returns-in-Err-clause-does : goal.returns-in-Err-clause-does
returns-in-Err-clause-does g c = λ number s. c.in-Err.ensures.watches (with_held (unsettled (held_view number c.args.held.now)) s)
