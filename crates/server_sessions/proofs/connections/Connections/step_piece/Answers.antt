use Rattle.std.proofs.Common.{sym, ◌∙◌, ap, subst, refl, List, ℕ, ◌++◌}
use Rattle.std.specs.Prelude.{Result, Ok, Err, OnErr}
use Rattle.plain_values.specs.declared.memory.NoMemory.{NoMemory}
use Rattle.server_sessions.specs.declared.answers.stepped.Stepped.{Stepped}
use Rattle.edge_devices.specs.declared.wires.WireEvent.TheVariants as event
use Rattle.server_sessions.specs.Reports.{host_of}
use Rattle.server_sessions.specs.Connections.{KeepsKnown, ended_known, first_scene, scene_at}
use Rattle.server_sessions.specs.Wiring.{view_of}
use Rattle.server_sessions.proofs.LoopLemmas.{half_done, known_still, known_then, piece_stays, piece_ends}
use Rattle.server_sessions.proofs.connections.Connections.step_piece.Goals as goal

pub returns-then-take-clause-steps : goal.returns-then-take-clause-steps
returns-then-take-clause-steps g c =
    piece_stays _ c.args.seen.now c.args.conn c.args.bytes.now c.args.self.now c.take.new.self
    (first_scene (view_of (g.W.Wire.calls c.args.wire.now) (g.W.Wire.faults c.args.wire.now)) (g.E.Entropy.state c.args.entropy.now) c.args.desk.now.server.table c.args.desk.now.rollouts)
    (scene_at (view_of (g.W.Wire.calls c.take.new.wire) (g.W.Wire.faults c.take.new.wire)) (g.E.Entropy.state c.take.new.entropy) c.take.new.desk.server.table c.take.new.desk.rollouts c.take.new.noted)
    c.take.result c.take.new.noted (rw c.nothing-noted.ensures.nothing at c.take.ensures.takes) c.if-take.true
    (c.take.ensures.ended ∙ ap (λ (s : Stepped). s.ended) c.nothing-noted.ensures.nothing)

pub returns-clause-steps : goal.returns-clause-steps
returns-clause-steps g c =
    let none = c.take.ensures.ended ∙ ap (λ (s : Stepped). s.ended) c.nothing-noted.ensures.nothing in
    piece_ends _ c.args.seen.now c.args.conn c.args.bytes.now c.args.self.now c.take.new.self c.end.new.self
    (first_scene (view_of (g.W.Wire.calls c.args.wire.now) (g.W.Wire.faults c.args.wire.now)) (g.E.Entropy.state c.args.entropy.now) c.args.desk.now.server.table c.args.desk.now.rollouts)
    (scene_at (view_of (g.W.Wire.calls c.take.new.wire) (g.W.Wire.faults c.take.new.wire)) (g.E.Entropy.state c.take.new.entropy) c.take.new.desk.server.table c.take.new.desk.rollouts c.take.new.noted)
    c.take.result (record c.take.new.noted { ended = c.end.new.ended }) (rw c.nothing-noted.ensures.nothing at c.take.ensures.takes) c.if-take.false
    c.end.ensures.forgets (c.in_ok-end.ensures.ended ∙ ap (λ (xs : List ℕ). xs ++ ended_known c.args.conn c.take.new.self) none)

on_err : {T B : Type 0} (r : Result T NoMemory) → B → OnErr r B
on_err (Ok x) b = tt
on_err (Err e) b = b

pub returns-in_err-end-clause-wanting : goal.returns-in_err-end-clause-wanting
returns-in_err-end-clause-wanting g c =
    let host = host_of (λ b. (goal.Handler-dyn g b).answers b.1) c.args.desk.now.server.profile c.args.handlers.now in
    let stepped : Stepped = record c.take.new.noted { ended = ended_known c.args.conn c.take.new.self } in
    on_err c.from_residual.result (half_done host c.args.seen.now (event.Piece c.args.conn c.args.bytes.now) c.args.self.now c.end.new.self
    (view_of (g.W.Wire.calls c.args.wire.now) (g.W.Wire.faults c.args.wire.now)) (view_of (g.W.Wire.calls c.take.new.wire) (g.W.Wire.faults c.take.new.wire))
    (g.E.Entropy.state c.args.entropy.now) (g.E.Entropy.state c.take.new.entropy) c.args.desk.now.server.table c.args.desk.now.rollouts c.take.new.desk.server.table c.take.new.desk.rollouts stepped
    (piece_ends host c.args.seen.now c.args.conn c.args.bytes.now c.args.self.now c.take.new.self c.end.new.self
    (first_scene (view_of (g.W.Wire.calls c.args.wire.now) (g.W.Wire.faults c.args.wire.now)) (g.E.Entropy.state c.args.entropy.now) c.args.desk.now.server.table c.args.desk.now.rollouts)
    (scene_at (view_of (g.W.Wire.calls c.take.new.wire) (g.W.Wire.faults c.take.new.wire)) (g.E.Entropy.state c.take.new.entropy) c.take.new.desk.server.table c.take.new.desk.rollouts c.take.new.noted)
    c.take.result stepped (rw c.nothing-noted.ensures.nothing at c.take.ensures.takes) c.if-take.false c.end.ensures.forgets refl))

pub returns-then-take-clause-known : goal.returns-then-take-clause-known
returns-then-take-clause-known g c = known_still c.args.self.now c.take.new.self c.take.new.noted.ended c.take.ensures.still

pub returns-clause-known : goal.returns-clause-known
returns-clause-known g c =
    let none = c.take.ensures.ended ∙ ap (λ (s : Stepped). s.ended) c.nothing-noted.ensures.nothing in
    let ended = c.in_ok-end.ensures.ended ∙ ap (λ (xs : List ℕ). xs ++ ended_known c.args.conn c.take.new.self) none in
    subst (KeepsKnown c.args.self.now c.end.new.self) (sym ended) (known_then c.args.conn c.args.self.now c.take.new.self c.end.new.self c.take.ensures.still c.end.ensures.forgets)
