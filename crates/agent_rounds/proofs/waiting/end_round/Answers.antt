use Rattle.std.proofs.Common.{ℕ, Option, Ok, Err, refl, sym, subst}
use Rattle.agent_rounds.specs.Moments.{with_clock}
use Rattle.agent_rounds.specs.Replies.{EndsBy}
use Rattle.agent_rounds.specs.declared.ends.AgentEnd.TheVariants.{ClockFault}
use Rattle.agent_rounds.proofs.waiting.end_round.Goals as goal

pub returns-in-Ok-clause-does : goal.returns-in-Ok-clause-does
returns-in-Ok-clause-does g c = λ s.
    subst (λ (nanos : Option ℕ). EndsBy nanos c.args.pause.restart (with_clock (g.C.Clock.state c.args.clock.now) s) (with_clock (g.C.Clock.state c.wait.new.self) s) (Ok c.args.pause.restart)) (sym c.in-Some.is)
    (record { answer = Ok tt; waits = c.in-Ok.ensures.waits; rest = refl; end = refl })

pub returns-in-Err-clause-does : goal.returns-in-Err-clause-does
returns-in-Err-clause-does g c = λ s.
    subst (λ (nanos : Option ℕ). EndsBy nanos c.args.pause.restart (with_clock (g.C.Clock.state c.args.clock.now) s) (with_clock (g.C.Clock.state c.wait.new.self) s) (Err ClockFault)) (sym c.in-Some.is)
    (record { answer = Err c.in-Err.field-0; waits = c.in-Err.ensures.waits; rest = refl; end = refl })
