use Rattle.std.proofs.Common.{ℕ, Option, sym, subst}
use Rattle.agent_rounds.specs.Listening.{ListensBy}
use Rattle.agent_rounds.specs.Moments.{held_view, with_clock, with_dialer, with_held}
use Rattle.agent_rounds.proofs.listening.end_listening.Goals as goal

pub returns-in-Some-clause-does : goal.returns-in-Some-clause-does
returns-in-Some-clause-does g c = λ s.
    subst (λ (nanos : Option ℕ). ListensBy nanos c.args.pause.restart
    (with_held (held_view g.G.Dialer.number c.args.held.now) (with_dialer (g.G.Dialer.state c.args.dialer.now) (with_clock (g.C.Clock.state c.args.clock.now) s)))
    (with_held (held_view g.G.Dialer.number c.wait_in_parts.new.held) (with_dialer (g.G.Dialer.state c.wait_in_parts.new.dialer) (with_clock (g.C.Clock.state c.wait_in_parts.new.clock) s)))
    c.wait_in_parts.result)
    (sym c.in-Some.is) (c.wait_in_parts.ensures.does s)
