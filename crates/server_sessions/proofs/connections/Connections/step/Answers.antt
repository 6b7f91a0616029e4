use Rattle.std.proofs.lemmas.Result.{IfOk-weaker}
use Rattle.server_sessions.specs.Reports.{host_of}
use Rattle.server_sessions.specs.Wiring.{view_of}
use Rattle.edge_devices.specs.declared.wires.WireEvent.TheVariants as event
use Rattle.server_sessions.specs.Connections.{first_scene, scene_at}
use Rattle.server_sessions.proofs.LoopLemmas.{steps_closed}
use Rattle.server_sessions.proofs.StepLemmas.{steps_give, steps_heard}
use Rattle.server_sessions.proofs.connections.Connections.step.Goals as goal

pub returns-in-Closed-clause-steps : goal.returns-in-Closed-clause-steps
returns-in-Closed-clause-steps g c =
    rw c.in-Closed.is (IfOk-weaker c.step_closed.result _ _ (λ stepped is. steps_closed (host_of (λ b. (goal.Handler-dyn g b).answers b.1) c.args.desk.now.server.profile c.args.handlers.now) c.args.seen.now c.in-Closed.conn c.args.self.now c.step_closed.new.self (view_of (g.W.Wire.calls c.args.wire.now) (g.W.Wire.faults c.args.wire.now)) (g.E.Entropy.state c.args.entropy.now) c.args.desk.now.server.table c.args.desk.now.rollouts stepped c.step_closed.ensures.forgets is) c.step_closed.ensures.stepped)

pub returns-in-Piece-clause-wanting : goal.returns-in-Piece-clause-wanting
returns-in-Piece-clause-wanting g c = rw c.in-Piece.is (rw c.as_slice.ensures.value at c.step_piece.ensures.wanting)

pub returns-in-Piece-clause-calls : goal.returns-in-Piece-clause-calls
returns-in-Piece-clause-calls g c =
    IfOk-weaker c.step_piece.result _ _ (λ stepped steps streams stands. steps_give (host_of (λ b. (goal.Handler-dyn g b).answers b.1) c.args.desk.now.server.profile c.args.handlers.now) c.args.seen.now (event.Piece c.in-Piece.conn c.as_slice.result.now) c.args.self.now c.step_piece.new.self
    (first_scene (view_of (g.W.Wire.calls c.args.wire.now) (g.W.Wire.faults c.args.wire.now)) (g.E.Entropy.state c.args.entropy.now) c.args.desk.now.server.table c.args.desk.now.rollouts) (scene_at (view_of (g.W.Wire.calls c.step_piece.new.wire) (g.W.Wire.faults c.step_piece.new.wire)) (g.E.Entropy.state c.step_piece.new.entropy) c.step_piece.new.desk.server.table c.step_piece.new.desk.rollouts stepped)
    stepped steps streams stands) c.step_piece.ensures.steps

pub returns-in-Piece-clause-handled : goal.returns-in-Piece-clause-handled
returns-in-Piece-clause-handled g c =
    rw c.in-Piece.is (IfOk-weaker c.step_piece.result _ _ (λ stepped steps streams stands. steps_heard (host_of (λ b. (goal.Handler-dyn g b).answers b.1) c.args.desk.now.server.profile c.args.handlers.now) c.args.seen.now (event.Piece c.in-Piece.conn c.as_slice.result.now) c.args.self.now c.step_piece.new.self
    (view_of (g.W.Wire.calls c.args.wire.now) (g.W.Wire.faults c.args.wire.now)) (view_of (g.W.Wire.calls c.step_piece.new.wire) (g.W.Wire.faults c.step_piece.new.wire)) (g.E.Entropy.state c.args.entropy.now) (g.E.Entropy.state c.step_piece.new.entropy) c.args.desk.now.server.table c.args.desk.now.rollouts c.step_piece.new.desk.server.table c.step_piece.new.desk.rollouts
    stepped steps streams stands) c.step_piece.ensures.steps)
