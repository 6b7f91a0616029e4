use Rattle.server_sessions.specs.Answers.{sheet_of}
use Rattle.server_sessions.specs.Wiring.{view_of}
use Rattle.server_sessions.proofs.RequestLemmas.{whole_passed, whole_read, whole_waiting}
use Rattle.server_sessions.proofs.requests.serve_request.Goals as goal

pub returns-in-Waiting-clause-serves : goal.returns-in-Waiting-clause-serves
returns-in-Waiting-clause-serves g c = λ under_way is. whole_waiting _ c.args.conn under_way _ (rw c.in-Waiting.is at is)

pub returns-in-PassingOver-clause-serves : goal.returns-in-PassingOver-clause-serves
returns-in-PassingOver-clause-serves g c = λ under_way is.
    whole_passed _ c.args.conn c.in-PassingOver.status c.in-PassingOver.close under_way
    (view_of (g.W.Wire.calls c.args.wire.now) (g.W.Wire.faults c.args.wire.now)) (view_of (g.W.Wire.calls c.serve_refusal.new.wire) (g.W.Wire.faults c.serve_refusal.new.wire))
    (sheet_of (g.E.Entropy.state c.args.entropy.now) c.args.desk.now.server.table c.args.desk.now.rollouts c.args.noted.now) c.serve_refusal.result c.serve_refusal.ensures.answers (rw c.in-PassingOver.is at is)

pub returns-in-Reading-clause-serves : goal.returns-in-Reading-clause-serves
returns-in-Reading-clause-serves g c = λ under_way is.
    whole_read _ c.args.conn c.in-Reading.body c.in-Reading.close under_way _ _ c.serve_body.result c.serve_body.ensures.serves (rw c.in-Reading.is at is)
