use Rattle.std.proofs.Common.{Some, ap}
use Rattle.message_handlers.specs.Asking.{MayAnswer}
use Rattle.message_handlers.specs.Names.{names_of}
use Rattle.server_sessions.specs.Wiring.{view_of}
use Rattle.command_serve.proofs.Reported.{outcome_of, served_anew, too_large_outcome}
use Rattle.command_serve.proofs.Begins.{is_too_large}
use Rattle.command_serve.proofs.rolling.run_rollout.Goals as goal

pub returns-in-Err-TooLarge-clause-outcome : goal.returns-in-Err-TooLarge-clause-outcome
returns-in-Err-TooLarge-clause-outcome g c =
    let too = rw c.in-Err-TooLarge.field-0-is at c.in-Err-TooLarge.ensures.failed in
    too_large_outcome (names_of c.args.handlers.now) (MayAnswer (λ b. (goal.Handler-dyn g b).answers b.1) c.args.handlers.now) (g.J.Judge.finds_fine c.args.judge) c.args.options.now (Some c.args.rollout_options.now) (record { sink = record { taken = g.K.Sink.taken c.args.sink.now; faults = g.K.Sink.faults c.args.sink.now }; wire = view_of (g.W.Wire.calls c.args.wire.now) (g.W.Wire.faults c.args.wire.now); entropy = g.E.Entropy.state c.args.entropy.now }) (is_too_large too)

pub returns-clause-outcome : goal.returns-clause-outcome
returns-clause-outcome g c =
    outcome_of (names_of c.args.handlers.now) (MayAnswer (λ b. (goal.Handler-dyn g b).answers b.1) c.args.handlers.now) (g.J.Judge.finds_fine c.args.judge) c.args.options.now (Some c.args.rollout_options.now) (record { sink = record { taken = g.K.Sink.taken c.args.sink.now; faults = g.K.Sink.faults c.args.sink.now }; wire = view_of (g.W.Wire.calls c.args.wire.now) (g.W.Wire.faults c.args.wire.now); entropy = g.E.Entropy.state c.args.entropy.now }) (record { sink = record { taken = g.K.Sink.taken c.run_desk.new.sink; faults = g.K.Sink.faults c.run_desk.new.sink }; wire = view_of (g.W.Wire.calls c.run_desk.new.wire) (g.W.Wire.faults c.run_desk.new.wire); entropy = g.E.Entropy.state c.run_desk.new.entropy }) c.run_desk.result c.in-Ok-desk_rolling.ensures.fits
    (served_anew (names_of c.args.handlers.now) (MayAnswer (λ b. (goal.Handler-dyn g b).answers b.1) c.args.handlers.now) (g.J.Judge.finds_fine c.args.judge) c.args.options.now (Some c.args.rollout_options.now) _ _ _ (record { sink = record { taken = g.K.Sink.taken c.args.sink.now; faults = g.K.Sink.faults c.args.sink.now }; wire = view_of (g.W.Wire.calls c.args.wire.now) (g.W.Wire.faults c.args.wire.now); entropy = g.E.Entropy.state c.args.entropy.now }) (record { sink = record { taken = g.K.Sink.taken c.run_desk.new.sink; faults = g.K.Sink.faults c.run_desk.new.sink }; wire = view_of (g.W.Wire.calls c.run_desk.new.wire) (g.W.Wire.faults c.run_desk.new.wire); entropy = g.E.Entropy.state c.run_desk.new.entropy }) c.run_desk.result
    c.in-Ok-desk_rolling.ensures.begun c.new-delivery.ensures.delivered (ap Some c.in-Ok.ensures.name) c.run_desk.ensures.served)
