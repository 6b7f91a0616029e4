use Rattle.std.proofs.Common.{◌≡◌}
use Rattle.std.specs.Prelude.{IsSome}
use Rattle.agent_rounds.specs.Listening.{most_looks}
use Rattle.agent_rounds.specs.Moments.{held_view, number_held, with_dialer, with_held}
use Rattle.agent_rounds.specs.Stages.{Stage}
use Rattle.agent_rounds.proofs.ListeningLemmas.{Drained}
use Rattle.agent_rounds.proofs.listening.drain.Given as goal

-- each look so far found a message
abbrev pub invariant-loop : goal.invariant-loop
invariant-loop g l = record {
  so_far : (s : Stage) → Drained most_looks l.counter
      (with_held (held_view g.G.Dialer.number l.fn.held) (with_dialer (g.G.Dialer.state l.fn.dialer) s))
      (with_held (held_view g.G.Dialer.number l.held) (with_dialer (g.G.Dialer.state l.dialer) s));
  number : number_held (held_view g.G.Dialer.number l.held) ≡ number_held (held_view g.G.Dialer.number l.fn.held);
  linked : IsSome l.fn.held.link → IsSome l.held.link;
}
