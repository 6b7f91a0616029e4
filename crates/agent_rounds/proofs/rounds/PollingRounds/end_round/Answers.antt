use Rattle.agent_rounds.specs.Moments.{held_view, with_dialer, with_held}
use Rattle.agent_rounds.proofs.rounds.PollingRounds.end_round.Goals as goal

pub returns-clause-does : goal.returns-clause-does
returns-clause-does g c =
    λ s. c.end_round.ensures.does (with_held (held_view g.G.Dialer.number c.args._held.now) (with_dialer (g.G.Dialer.state c.args._dialer.now) s))
