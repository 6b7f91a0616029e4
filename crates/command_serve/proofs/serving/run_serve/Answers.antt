use Rattle.std.proofs.Common.{None, refl}
use Rattle.message_handlers.specs.Asking.{MayAnswer}
use Rattle.message_handlers.specs.Names.{names_of}
use Rattle.server_sessions.specs.Wiring.{view_of}
use Rattle.command_serve.proofs.Reported.{outcome_of, served_anew}
use Rattle.command_serve.proofs.serving.run_serve.Goals as goal

pub returns-clause-outcome : goal.returns-clause-outcome
returns-clause-outcome g c =
    outcome_of (names_of c.args.handlers.now) (MayAnswer (λ b. (goal.Handler-dyn g b).answers b.1) c.args.handlers.now) (g.J.Judge.finds_fine c.args.judge) c.args.options.now None (record { sink = record { taken = g.K.Sink.taken c.args.sink.now; faults = g.K.Sink.faults c.args.sink.now }; wire = view_of (g.W.Wire.calls c.args.wire.now) (g.W.Wire.faults c.args.wire.now); entropy = g.E.Entropy.state c.args.entropy.now }) (record { sink = record { taken = g.K.Sink.taken c.run_desk.new.sink; faults = g.K.Sink.faults c.run_desk.new.sink }; wire = view_of (g.W.Wire.calls c.run_desk.new.wire) (g.W.Wire.faults c.run_desk.new.wire); entropy = g.E.Entropy.state c.run_desk.new.entropy }) c.run_desk.result tt
    (served_anew (names_of c.args.handlers.now) (MayAnswer (λ b. (goal.Handler-dyn g b).answers b.1) c.args.handlers.now) (g.J.Judge.finds_fine c.args.judge) c.args.options.now None _ _ _ (record { sink = record { taken = g.K.Sink.taken c.args.sink.now; faults = g.K.Sink.faults c.args.sink.now }; wire = view_of (g.W.Wire.calls c.args.wire.now) (g.W.Wire.faults c.args.wire.now); entropy = g.E.Entropy.state c.args.entropy.now }) (record { sink = record { taken = g.K.Sink.taken c.run_desk.new.sink; faults = g.K.Sink.faults c.run_desk.new.sink }; wire = view_of (g.W.Wire.calls c.run_desk.new.wire) (g.W.Wire.faults c.run_desk.new.wire); entropy = g.E.Entropy.state c.run_desk.new.entropy }) c.run_desk.result
    c.in-Ok.ensures.rollouts c.new-delivery.ensures.delivered refl c.run_desk.ensures.served)
