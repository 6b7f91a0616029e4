use Rattle.std.proofs.Common.{Some, refl, inl, false, true}
use Rattle.server_sessions.specs.declared.answers.limits.TheConstants.{BAD_WORDS, LINE_NO_MEMORY}
use Rattle.server_lines.specs.Sights.{numbers_in, sight_of}
use Rattle.server_sessions.specs.Reports.{silent}
use Rattle.server_sessions.specs.Wiring.{view_of}
use Rattle.server_sessions.proofs.ItemLemmas.{line_served, line_starved}
use Rattle.server_sessions.proofs.OpenLemmas.{kept_open}
use Rattle.server_sessions.proofs.lines.serve_line.Goals as goal

pub returns-in-Ok-None-clause-serves : goal.returns-in-Ok-None-clause-serves
returns-in-Ok-None-clause-serves g c = λ entropy.
    line_served (silent c.args.desk.now.server.profile) c.args.conn c.args.line.now (sight_of c.args.seen.now (numbers_in c.args.known.now.entries)) (view_of (g.W.Wire.calls c.args.wire.now) (g.W.Wire.faults c.args.wire.now)) (view_of (g.W.Wire.calls c.send_answer.new.wire) (g.W.Wire.faults c.send_answer.new.wire)) entropy
    c.args.desk.now.server.table c.args.desk.now.rollouts c.args.desk.now.server.table c.args.desk.now.rollouts c.args.noted.now.handled c.args.noted.now.ordered c.args.noted.now.ordered c.args.noted.now.entries c.args.noted.now.entries c.send_answer.result c.args.noted.now.stop
    BAD_WORDS false c.requires.stop (inl (rw c.in-Ok-None.field-0-is at c.in-Ok-None.ensures.order, refl, refl, refl, refl, refl)) c.send_answer.ensures.goes_out

pub returns-in-Err-clause-serves : goal.returns-in-Err-clause-serves
returns-in-Err-clause-serves g c = λ entropy.
    line_starved (silent c.args.desk.now.server.profile) c.args.conn c.args.line.now (sight_of c.args.seen.now (numbers_in c.args.known.now.entries)) (view_of (g.W.Wire.calls c.args.wire.now) (g.W.Wire.faults c.args.wire.now)) (view_of (g.W.Wire.calls c.send_answer-in-Err.new.wire) (g.W.Wire.faults c.send_answer-in-Err.new.wire)) entropy
    c.args.desk.now.server.table c.args.desk.now.rollouts c.args.desk.now.server.table c.args.desk.now.rollouts c.args.noted.now.handled c.args.noted.now.ordered c.args.noted.now.ordered c.args.noted.now.entries c.args.noted.now.entries c.send_answer-in-Err.result c.args.noted.now.stop
    c.requires.stop refl (inl refl) (inl refl) c.send_answer-in-Err.ensures.goes_out

pub returns-in-Ok-None-clause-open : goal.returns-in-Ok-None-clause-open
returns-in-Ok-None-clause-open g c = kept_open c.args.conn (Some BAD_WORDS) false (view_of (g.W.Wire.calls c.args.wire.now) (g.W.Wire.faults c.args.wire.now)) (view_of (g.W.Wire.calls c.send_answer.new.wire) (g.W.Wire.faults c.send_answer.new.wire)) c.send_answer.result c.send_answer.ensures.goes_out c.requires.open

pub returns-in-Err-clause-open : goal.returns-in-Err-clause-open
returns-in-Err-clause-open g c = kept_open c.args.conn (Some LINE_NO_MEMORY) true (view_of (g.W.Wire.calls c.args.wire.now) (g.W.Wire.faults c.args.wire.now)) (view_of (g.W.Wire.calls c.send_answer-in-Err.new.wire) (g.W.Wire.faults c.send_answer-in-Err.new.wire)) c.send_answer-in-Err.result c.send_answer-in-Err.ensures.goes_out c.requires.open
