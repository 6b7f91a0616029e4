use Rattle.std.proofs.Common.{◌≡◌, ◌∙◌, ◌-◌, arith}
use Rattle.agent_rounds.specs.Listening.{most_looks}
use Rattle.agent_rounds.specs.Moments.{held_view, with_dialer, with_held}
use Rattle.agent_rounds.specs.declared.listening.Arrival.TheVariants.{Came, Gone}
use Rattle.agent_rounds.proofs.ListeningLemmas.{drained_gone, drained_on, drained_quiet, drained_spent}
use Rattle.agent_rounds.proofs.listening.drain.Goals as goal

came_apart : Came ≡ Gone → ⊥
came_apart is = cc

pub returns-in-Quiet-clause-drains : goal.returns-in-Quiet-clause-drains
returns-in-Quiet-clause-drains g c = λ s.
    drained_quiet most_looks c.loop.counter (with_held (held_view g.G.Dialer.number c.args.held.now) (with_dialer (g.G.Dialer.state c.args.dialer.now) s))
    (with_held (held_view g.G.Dialer.number c.loop.held) (with_dialer (g.G.Dialer.state c.loop.dialer) s))
    (with_held (held_view g.G.Dialer.number c.look.new.held) (with_dialer (g.G.Dialer.state c.look.new.dialer) s)) c.loop-test.true (c.loop.invariant.so_far s) (c.in-Quiet.ensures.listens s)

pub returns-in-Gone-clause-drains : goal.returns-in-Gone-clause-drains
returns-in-Gone-clause-drains g c = λ s.
    drained_gone most_looks c.loop.counter (with_held (held_view g.G.Dialer.number c.args.held.now) (with_dialer (g.G.Dialer.state c.args.dialer.now) s))
    (with_held (held_view g.G.Dialer.number c.loop.held) (with_dialer (g.G.Dialer.state c.loop.dialer) s))
    (with_held (held_view g.G.Dialer.number c.look.new.held) (with_dialer (g.G.Dialer.state c.look.new.dialer) s)) c.loop-test.true (c.loop.invariant.so_far s) (c.in-Gone.ensures.listens s)

pub loop-preserved : goal.loop-preserved
loop-preserved g c = record {
  so_far = λ s.
      drained_on most_looks c.loop.counter (with_held (held_view g.G.Dialer.number c.args.held.now) (with_dialer (g.G.Dialer.state c.args.dialer.now) s))
      (with_held (held_view g.G.Dialer.number c.loop.held) (with_dialer (g.G.Dialer.state c.loop.dialer) s))
      (with_held (held_view g.G.Dialer.number c.look.new.held) (with_dialer (g.G.Dialer.state c.look.new.dialer) s)) c.loop-test.true (c.loop.invariant.so_far s) (c.in-Came.ensures.listens s);
  number = c.in-Came.ensures.number came_apart ∙ c.loop.invariant.number;
  linked = λ some. c.in-Came.ensures.linked came_apart (c.loop.invariant.linked some);
}

pub returns-clause-drains : goal.returns-clause-drains
returns-clause-drains g c = λ s.
    let none : most_looks - c.loop.counter ≡ 0 = omega (arith, c.loop-test.false) in
    drained_spent most_looks c.loop.counter (with_held (held_view g.G.Dialer.number c.args.held.now) (with_dialer (g.G.Dialer.state c.args.dialer.now) s))
    (with_held (held_view g.G.Dialer.number c.loop.held) (with_dialer (g.G.Dialer.state c.loop.dialer) s)) none (c.loop.invariant.so_far s)
