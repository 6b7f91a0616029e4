use Rattle.server_sessions.specs.Answers.{sheet_of}
use Rattle.server_sessions.specs.Wiring.{view_of}
use Rattle.server_sessions.specs.Connections.{scene_at}
use Rattle.server_sessions.proofs.ReadLemmas.{piece_fed}
use Rattle.server_sessions.proofs.RequestLemmas.{piece_failed, piece_read, piece_stopped}
use Rattle.server_sessions.proofs.requests.serve_requests.Goals as goal

pub returns-then-not-serve_parts-clause-serves : goal.returns-then-not-serve_parts-clause-serves
returns-then-not-serve_parts-clause-serves g c = λ sight.
    piece_stopped _ c.args.conn c.args.bytes.now c.args.reader.now c.serve_parts.new.reader c.feed-fed.new.self
    (scene_at (view_of (g.W.Wire.calls c.args.wire.now) (g.W.Wire.faults c.args.wire.now)) (g.E.Entropy.state c.args.entropy.now) c.args.desk.now.server.table c.args.desk.now.rollouts c.args.noted.now)
    (scene_at (view_of (g.W.Wire.calls c.serve_parts.new.wire) (g.W.Wire.faults c.serve_parts.new.wire)) (g.E.Entropy.state c.serve_parts.new.entropy) c.serve_parts.new.desk.server.table c.serve_parts.new.desk.rollouts c.serve_parts.new.noted)
    (piece_fed c.args.reader.now.parts c.feed-fed.new.self c.args.bytes.now c.feed-fed.ensures.read c.feed-fed.ensures.kind) sight
    (c.serve_parts.ensures.stops c.if-not-serve_parts.true)

pub returns-in-Ok-clause-serves : goal.returns-in-Ok-clause-serves
returns-in-Ok-clause-serves g c = λ sight.
    let stays = c.if-not-serve_parts.false in
    piece_read _ c.args.conn c.args.bytes.now c.args.reader.now c.serve_parts.new.reader c.feed-fed.new.self
    (scene_at (view_of (g.W.Wire.calls c.args.wire.now) (g.W.Wire.faults c.args.wire.now)) (g.E.Entropy.state c.args.entropy.now) c.args.desk.now.server.table c.args.desk.now.rollouts c.args.noted.now)
    (scene_at (view_of (g.W.Wire.calls c.serve_parts.new.wire) (g.W.Wire.faults c.serve_parts.new.wire)) (g.E.Entropy.state c.serve_parts.new.entropy) c.serve_parts.new.desk.server.table c.serve_parts.new.desk.rollouts c.serve_parts.new.noted)
    (piece_fed c.args.reader.now.parts c.feed-fed.new.self c.args.bytes.now c.feed-fed.ensures.read c.feed-fed.ensures.kind) sight
    (rw c.in-Ok.is at c.feed-fed.ensures.answer) (c.serve_parts.ensures.taken stays) (c.serve_parts.ensures.ready stays) (c.serve_parts.ensures.failure stays) (c.serve_parts.ensures.serves stays)

pub returns-in-Err-clause-serves : goal.returns-in-Err-clause-serves
returns-in-Err-clause-serves g c = λ sight.
    piece_failed _ sight c.args.conn c.args.bytes.now c.args.reader.now c.serve_parts.new.reader c.feed-fed.new.self c.serve_parts.new.reader.progress c.in-Err.failure
    (scene_at (view_of (g.W.Wire.calls c.args.wire.now) (g.W.Wire.faults c.args.wire.now)) (g.E.Entropy.state c.args.entropy.now) c.args.desk.now.server.table c.args.desk.now.rollouts c.args.noted.now)
    (view_of (g.W.Wire.calls c.serve_parts.new.wire) (g.W.Wire.faults c.serve_parts.new.wire)) (view_of (g.W.Wire.calls c.answer_failure.new.wire) (g.W.Wire.faults c.answer_failure.new.wire))
    (sheet_of (g.E.Entropy.state c.serve_parts.new.entropy) c.serve_parts.new.desk.server.table c.serve_parts.new.desk.rollouts c.serve_parts.new.noted)
    (piece_fed c.args.reader.now.parts c.feed-fed.new.self c.args.bytes.now c.feed-fed.ensures.read c.feed-fed.ensures.kind)
    (rw c.in-Err.is at c.feed-fed.ensures.answer) (c.serve_parts.ensures.serves c.if-not-serve_parts.false) c.answer_failure.ensures.answers

-- ---- which connections are open

pub returns-then-not-serve_parts-clause-open : goal.returns-then-not-serve_parts-clause-open
returns-then-not-serve_parts-clause-open g c = (c.serve_parts.ensures.open.0, λ is. absurd (cc is))

pub returns-in-Ok-clause-open : goal.returns-in-Ok-clause-open
returns-in-Ok-clause-open g c = (c.serve_parts.ensures.open.0, λ is. c.serve_parts.ensures.open.1 c.if-not-serve_parts.false)

pub returns-in-Err-clause-open : goal.returns-in-Err-clause-open
returns-in-Err-clause-open g c = (λ other apart was. c.answer_failure.ensures.open.0 other apart (c.serve_parts.ensures.open.0 other apart was), c.answer_failure.ensures.open.1)
