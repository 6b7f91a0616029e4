use Rattle.std.proofs.Common.{◌≡◌, ◌<◌, ◌≤◌, ◌-◌, ◌*◌, ◌/◌, Ok, Err, refl, ap, subst, arith}
use Rattle.agent_rounds.specs.Listening.{longest_part, parts_before}
use Rattle.agent_rounds.specs.Moments.{held_view, with_clock, with_dialer, with_held}
use Rattle.agent_rounds.specs.declared.ends.AgentEnd.TheVariants.{ClockFault}
use Rattle.agent_rounds.proofs.ListeningLemmas.{waited_came, waited_gone, waited_last, waited_last_out, waited_out, waited_quiet}
use Rattle.edge_devices.specs.Clocks.{Waits}
use Rattle.agent_rounds.proofs.listening.wait_in_parts.Goals.{in-Gone, in-Quiet}
use Rattle.agent_rounds.proofs.listening.wait_in_parts.Goals as goal

pub returns-in-Err-clause-does : goal.returns-in-Err-clause-does
returns-in-Err-clause-does g c =
    let same : c.saturating_sub-before.result / longest_part ≡ parts_before c.args.nanos = ap (λ n. n / longest_part) c.saturating_sub-before.ensures in
    let within : c.loop.counter < parts_before c.args.nanos = subst (λ n. c.loop.counter < n) same c.loop-test.true in
    λ s.
    waited_out (parts_before c.args.nanos) (c.args.nanos - parts_before c.args.nanos * longest_part) c.loop.counter c.args.restart
    (with_held (held_view g.G.Dialer.number c.args.held.now) (with_dialer (g.G.Dialer.state c.args.dialer.now) (with_clock (g.C.Clock.state c.args.clock.now) s)))
    (with_held (held_view g.G.Dialer.number c.loop.held) (with_dialer (g.G.Dialer.state c.loop.dialer) (with_clock (g.C.Clock.state c.loop.clock) s)))
    within (c.loop.invariant.so_far s)
    (with_held (held_view g.G.Dialer.number c.loop.held) (with_dialer (g.G.Dialer.state c.loop.dialer) (with_clock (g.C.Clock.state c.wait.new.self) s)))
    ClockFault (record { answer = Err c.in-Err.field-0; waits = c.in-Err.ensures.waits; rest = refl; end = refl })

pub returns-in-Came-clause-does : goal.returns-in-Came-clause-does
returns-in-Came-clause-does g c =
    let same : c.saturating_sub-before.result / longest_part ≡ parts_before c.args.nanos = ap (λ n. n / longest_part) c.saturating_sub-before.ensures in
    let within : c.loop.counter < parts_before c.args.nanos = subst (λ n. c.loop.counter < n) same c.loop-test.true in
    λ s.
    waited_came (parts_before c.args.nanos) (c.args.nanos - parts_before c.args.nanos * longest_part) c.loop.counter c.args.restart
    (with_held (held_view g.G.Dialer.number c.args.held.now) (with_dialer (g.G.Dialer.state c.args.dialer.now) (with_clock (g.C.Clock.state c.args.clock.now) s)))
    (with_held (held_view g.G.Dialer.number c.loop.held) (with_dialer (g.G.Dialer.state c.loop.dialer) (with_clock (g.C.Clock.state c.loop.clock) s)))
    (with_held (held_view g.G.Dialer.number c.loop.held) (with_dialer (g.G.Dialer.state c.loop.dialer) (with_clock (g.C.Clock.state c.wait.new.self) s)))
    (with_held (held_view g.G.Dialer.number c.look.new.held) (with_dialer (g.G.Dialer.state c.look.new.dialer) (with_clock (g.C.Clock.state c.wait.new.self) s)))
    within (c.loop.invariant.so_far s) (record { answer = Ok tt; waits = c.in-Ok.ensures.waits; rest = refl; end = refl })
    (c.in-Came.ensures.listens (with_clock (g.C.Clock.state c.wait.new.self) s))

pub loop-preserved : goal.loop-preserved
loop-preserved g c =
    let same : c.saturating_sub-before.result / longest_part ≡ parts_before c.args.nanos = ap (λ n. n / longest_part) c.saturating_sub-before.ensures in
    let within : c.loop.counter < parts_before c.args.nanos = subst (λ n. c.loop.counter < n) same c.loop-test.true in
    let counts : (g.C.Clock.state c.args.clock.now).faults ≤ (g.C.Clock.state c.wait.new.self).faults = omega (arith, c.loop.invariant.counts, c.wait.ensures.waits.count) in
    elim c.match-look.branch [
      | in-Quiet w ↦ record {
        so_far = λ s.
            waited_quiet (parts_before c.args.nanos) (c.args.nanos - parts_before c.args.nanos * longest_part) c.loop.counter c.args.restart
            (with_held (held_view g.G.Dialer.number c.args.held.now) (with_dialer (g.G.Dialer.state c.args.dialer.now) (with_clock (g.C.Clock.state c.args.clock.now) s)))
            (with_held (held_view g.G.Dialer.number c.loop.held) (with_dialer (g.G.Dialer.state c.loop.dialer) (with_clock (g.C.Clock.state c.loop.clock) s)))
            (with_held (held_view g.G.Dialer.number c.loop.held) (with_dialer (g.G.Dialer.state c.loop.dialer) (with_clock (g.C.Clock.state c.wait.new.self) s)))
            (with_held (held_view g.G.Dialer.number c.look.new.held) (with_dialer (g.G.Dialer.state c.look.new.dialer) (with_clock (g.C.Clock.state c.wait.new.self) s)))
            within (c.loop.invariant.so_far s) (record { answer = Ok tt; waits = c.in-Ok.ensures.waits; rest = refl; end = refl })
            (w.in-Quiet.ensures.listens (with_clock (g.C.Clock.state c.wait.new.self) s));
        counts = counts;
      }
      | in-Gone w ↦ record {
        so_far = λ s.
            waited_gone (parts_before c.args.nanos) (c.args.nanos - parts_before c.args.nanos * longest_part) c.loop.counter c.args.restart
            (with_held (held_view g.G.Dialer.number c.args.held.now) (with_dialer (g.G.Dialer.state c.args.dialer.now) (with_clock (g.C.Clock.state c.args.clock.now) s)))
            (with_held (held_view g.G.Dialer.number c.loop.held) (with_dialer (g.G.Dialer.state c.loop.dialer) (with_clock (g.C.Clock.state c.loop.clock) s)))
            (with_held (held_view g.G.Dialer.number c.loop.held) (with_dialer (g.G.Dialer.state c.loop.dialer) (with_clock (g.C.Clock.state c.wait.new.self) s)))
            (with_held (held_view g.G.Dialer.number c.look.new.held) (with_dialer (g.G.Dialer.state c.look.new.dialer) (with_clock (g.C.Clock.state c.wait.new.self) s)))
            within (c.loop.invariant.so_far s) (record { answer = Ok tt; waits = c.in-Ok.ensures.waits; rest = refl; end = refl })
            (w.in-Gone.ensures.listens (with_clock (g.C.Clock.state c.wait.new.self) s));
        counts = counts;
      }
    ]

pub returns-in-Err-wait-clause-does : goal.returns-in-Err-wait-clause-does
returns-in-Err-wait-clause-does g c =
    let same : c.saturating_sub-before.result / longest_part ≡ parts_before c.args.nanos = ap (λ n. n / longest_part) c.saturating_sub-before.ensures in
    let none : parts_before c.args.nanos - c.loop.counter ≡ 0 = omega (arith, same, c.loop-test.false) in
    λ s.
    waited_last_out (parts_before c.args.nanos) (c.args.nanos - parts_before c.args.nanos * longest_part) c.loop.counter c.args.restart
    (with_held (held_view g.G.Dialer.number c.args.held.now) (with_dialer (g.G.Dialer.state c.args.dialer.now) (with_clock (g.C.Clock.state c.args.clock.now) s)))
    (with_held (held_view g.G.Dialer.number c.loop.held) (with_dialer (g.G.Dialer.state c.loop.dialer) (with_clock (g.C.Clock.state c.loop.clock) s)))
    none (c.loop.invariant.so_far s)
    (with_held (held_view g.G.Dialer.number c.loop.held) (with_dialer (g.G.Dialer.state c.loop.dialer) (with_clock (g.C.Clock.state c.wait-2.new.self) s)))
    ClockFault (record { answer = Err c.in-Err-wait.field-0; waits = subst (λ n. Waits (g.C.Clock.state c.loop.clock) (g.C.Clock.state c.wait-2.new.self) (c.args.nanos - n * longest_part) (Err c.in-Err-wait.field-0)) same c.in-Err-wait.ensures.waits; rest = refl; end = refl })

pub returns-clause-does : goal.returns-clause-does
returns-clause-does g c =
    let same : c.saturating_sub-before.result / longest_part ≡ parts_before c.args.nanos = ap (λ n. n / longest_part) c.saturating_sub-before.ensures in
    let none : parts_before c.args.nanos - c.loop.counter ≡ 0 = omega (arith, same, c.loop-test.false) in
    λ s.
    waited_last (parts_before c.args.nanos) (c.args.nanos - parts_before c.args.nanos * longest_part) c.loop.counter c.args.restart
    (with_held (held_view g.G.Dialer.number c.args.held.now) (with_dialer (g.G.Dialer.state c.args.dialer.now) (with_clock (g.C.Clock.state c.args.clock.now) s)))
    (with_held (held_view g.G.Dialer.number c.loop.held) (with_dialer (g.G.Dialer.state c.loop.dialer) (with_clock (g.C.Clock.state c.loop.clock) s)))
    none (c.loop.invariant.so_far s)
    (with_held (held_view g.G.Dialer.number c.loop.held) (with_dialer (g.G.Dialer.state c.loop.dialer) (with_clock (g.C.Clock.state c.wait-2.new.self) s)))
    (with_held (held_view g.G.Dialer.number c.look-arrival.new.held) (with_dialer (g.G.Dialer.state c.look-arrival.new.dialer) (with_clock (g.C.Clock.state c.wait-2.new.self) s)))
    c.look-arrival.result (record { answer = Ok tt; waits = subst (λ n. Waits (g.C.Clock.state c.loop.clock) (g.C.Clock.state c.wait-2.new.self) (c.args.nanos - n * longest_part) (Ok tt)) same c.in-Ok-wait.ensures.waits; rest = refl; end = refl })
    (c.look-arrival.ensures.listens (with_clock (g.C.Clock.state c.wait-2.new.self) s))
