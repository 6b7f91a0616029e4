use Rattle.std.proofs.Common.{◌≤◌, ◌-◌, ◌*◌}
use Rattle.agent_rounds.specs.Listening.{longest_part, parts_before}
use Rattle.agent_rounds.specs.Moments.{held_view, with_clock, with_dialer, with_held}
use Rattle.agent_rounds.specs.Stages.{Stage}
use Rattle.agent_rounds.proofs.ListeningLemmas.{Waited}
use Rattle.agent_rounds.proofs.listening.wait_in_parts.Given as goal

-- no message came so far
abbrev pub invariant-loop : goal.invariant-loop
invariant-loop g l = record {
  so_far : (s : Stage) → Waited (parts_before l.fn.nanos) (l.fn.nanos - parts_before l.fn.nanos * longest_part) l.counter l.fn.restart
      (with_held (held_view g.G.Dialer.number l.fn.held) (with_dialer (g.G.Dialer.state l.fn.dialer) (with_clock (g.C.Clock.state l.fn.clock) s)))
      (with_held (held_view g.G.Dialer.number l.held) (with_dialer (g.G.Dialer.state l.dialer) (with_clock (g.C.Clock.state l.clock) s)));
  counts : (g.C.Clock.state l.fn.clock).faults ≤ (g.C.Clock.state l.clock).faults;
}
