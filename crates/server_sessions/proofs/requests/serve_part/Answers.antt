use Rattle.std.proofs.Common.{Some, true}
use Rattle.server_sessions.specs.Answers.{sheet_of}
use Rattle.server_sessions.specs.Wiring.{view_of}
use Rattle.server_sessions.specs.declared.answers.limits.TheConstants.{HTTP_NO_MEMORY}
use Rattle.server_sessions.proofs.OpenLemmas.{kept_open}
use Rattle.server_sessions.proofs.RequestLemmas.{bytes_starved}
use Rattle.server_sessions.proofs.requests.serve_part.Goals as goal

pub returns-in-Body-clause-serves : goal.returns-in-Body-clause-serves
returns-in-Body-clause-serves g c =
    rw c.in-Body.is (bytes_starved _ c.args.conn c.in-Body.bytes c.args.progress.now c.read_on.new.progress
    (view_of (g.W.Wire.calls c.args.wire.now) (g.W.Wire.faults c.args.wire.now)) (view_of (g.W.Wire.calls c.send_answer.new.wire) (g.W.Wire.faults c.send_answer.new.wire))
    (sheet_of (g.E.Entropy.state c.args.entropy.now) c.args.desk.now.server.table c.args.desk.now.rollouts c.args.noted.now) c.send_answer.result c.send_answer.ensures.goes_out)

pub returns-in-Body-clause-open : goal.returns-in-Body-clause-open
returns-in-Body-clause-open g c = kept_open c.args.conn (Some HTTP_NO_MEMORY) true (view_of (g.W.Wire.calls c.args.wire.now) (g.W.Wire.faults c.args.wire.now)) (view_of (g.W.Wire.calls c.send_answer.new.wire) (g.W.Wire.faults c.send_answer.new.wire)) c.send_answer.result c.send_answer.ensures.goes_out c.requires.open
