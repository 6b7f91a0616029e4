use Rattle.std.proofs.Common.{Some, true, sym}
use Rattle.server_sessions.specs.declared.answers.limits.TheConstants.{HTTP_NO_MEMORY}
use Rattle.server_sessions.specs.Wiring.{view_of}
use Rattle.server_sessions.proofs.OpenLemmas.{kept_open}
use Rattle.server_sessions.proofs.RequestLemmas.{request_served, request_starved}
use Rattle.server_sessions.proofs.requests.serve_body.Goals as goal

pub returns-in-Ok-clause-serves : goal.returns-in-Ok-clause-serves
returns-in-Ok-clause-serves g c = λ message is.
    request_served _ _ _ _ _ _ _ _ _ _ _ _ _ _ _ _ (rw (sym c.as_slice.ensures.value) at c.in-Ok.ensures.answers) c.send_answer.ensures.goes_out is

pub returns-in-Err-clause-serves : goal.returns-in-Err-clause-serves
returns-in-Err-clause-serves g c = λ message is.
    request_starved _ _ _ _ _ _ _ _ _ _ _ _ _ _ _ c.in-Err.ensures.half c.in-Err.ensures.handled c.send_answer-in-Err.ensures.goes_out is

pub returns-in-Ok-clause-open : goal.returns-in-Ok-clause-open
returns-in-Ok-clause-open g c = kept_open c.args.conn (Some c.as_slice.result.now) c.args.close (view_of (g.W.Wire.calls c.args.wire.now) (g.W.Wire.faults c.args.wire.now)) (view_of (g.W.Wire.calls c.send_answer.new.wire) (g.W.Wire.faults c.send_answer.new.wire)) c.send_answer.result c.send_answer.ensures.goes_out c.requires.open

pub returns-in-Err-clause-open : goal.returns-in-Err-clause-open
returns-in-Err-clause-open g c = kept_open c.args.conn (Some HTTP_NO_MEMORY) true (view_of (g.W.Wire.calls c.args.wire.now) (g.W.Wire.faults c.args.wire.now)) (view_of (g.W.Wire.calls c.send_answer-in-Err.new.wire) (g.W.Wire.faults c.send_answer-in-Err.new.wire)) c.send_answer-in-Err.result c.send_answer-in-Err.ensures.goes_out c.requires.open
