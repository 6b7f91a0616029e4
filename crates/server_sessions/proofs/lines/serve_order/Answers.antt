use Rattle.std.proofs.Common.{◌∙◌, Some, false, true, refl, inr}
use Rattle.server_sessions.specs.declared.answers.limits.TheConstants.{LINE_NO_MEMORY}
use Rattle.server_sessions.specs.Reports.{silent}
use Rattle.server_lines.specs.Orders.{is_stop}
use Rattle.server_lines.specs.Sights.{numbers_in, sight_of}
use Rattle.server_sessions.specs.Wiring.{view_of}
use Rattle.server_sessions.proofs.ItemLemmas.{line_served, line_starved, half_from, told_from}
use Rattle.server_sessions.proofs.OpenLemmas.{kept_open}
use Rattle.server_sessions.proofs.lines.serve_order.Goals as goal

pub returns-in-Ok-clause-serves : goal.returns-in-Ok-clause-serves
returns-in-Ok-clause-serves g c = λ entropy line means.
    let sent = c.as_bytes.ensures.value ∙ c.as_str.ensures.value in
    line_served (silent c.args.desk.now.server.profile) c.args.conn line (sight_of c.args.seen.now (numbers_in c.args.known.now.entries)) (view_of (g.W.Wire.calls c.args.wire.now) (g.W.Wire.faults c.args.wire.now)) (view_of (g.W.Wire.calls c.send_answer.new.wire) (g.W.Wire.faults c.send_answer.new.wire)) entropy
    c.args.desk.now.server.table c.args.desk.now.rollouts c.run_noting.new.desk.server.table c.run_noting.new.desk.rollouts c.args.noted.now.handled c.args.noted.now.ordered c.run_noting.new.ordered c.args.noted.now.entries c.run_noting.new.entries c.send_answer.result c.is_stop-stop.result
    c.in-Ok.text (is_stop c.args.order) c.is_stop-stop.ensures.stop
    (inr (c.args.order, means, c.in-Ok.ensures.runs, c.in-Ok.ensures.noted, refl, c.in-Ok.ensures.told)) (rw sent at c.send_answer.ensures.goes_out)

pub returns-in-Err-clause-serves : goal.returns-in-Err-clause-serves
returns-in-Err-clause-serves g c = λ entropy line means.
    line_starved (silent c.args.desk.now.server.profile) c.args.conn line (sight_of c.args.seen.now (numbers_in c.args.known.now.entries)) (view_of (g.W.Wire.calls c.args.wire.now) (g.W.Wire.faults c.args.wire.now)) (view_of (g.W.Wire.calls c.send_answer-in-Err.new.wire) (g.W.Wire.faults c.send_answer-in-Err.new.wire)) entropy
    c.args.desk.now.server.table c.args.desk.now.rollouts c.run_noting.new.desk.server.table c.run_noting.new.desk.rollouts c.args.noted.now.handled c.args.noted.now.ordered c.run_noting.new.ordered c.args.noted.now.entries c.run_noting.new.entries c.send_answer-in-Err.result c.args.noted.now.stop
    c.requires.stop c.in-Err.ensures.ordered (half_from line (sight_of c.args.seen.now (numbers_in c.args.known.now.entries)) c.args.desk.now.server.table c.args.desk.now.rollouts c.run_noting.new.desk.server.table c.run_noting.new.desk.rollouts c.args.order means c.in-Err.ensures.err)
    (told_from c.args.conn line (sight_of c.args.seen.now (numbers_in c.args.known.now.entries)) c.args.desk.now.server.table c.args.desk.now.rollouts c.run_noting.new.desk.server.table c.run_noting.new.desk.rollouts c.args.noted.now.entries c.run_noting.new.entries c.args.order means c.in-Err.ensures.half_told) c.send_answer-in-Err.ensures.goes_out

pub returns-in-Ok-clause-open : goal.returns-in-Ok-clause-open
returns-in-Ok-clause-open g c = kept_open c.args.conn (Some c.as_bytes.result.now) false (view_of (g.W.Wire.calls c.args.wire.now) (g.W.Wire.faults c.args.wire.now)) (view_of (g.W.Wire.calls c.send_answer.new.wire) (g.W.Wire.faults c.send_answer.new.wire)) c.send_answer.result c.send_answer.ensures.goes_out c.requires.open

pub returns-in-Err-clause-open : goal.returns-in-Err-clause-open
returns-in-Err-clause-open g c = kept_open c.args.conn (Some LINE_NO_MEMORY) true (view_of (g.W.Wire.calls c.args.wire.now) (g.W.Wire.faults c.args.wire.now)) (view_of (g.W.Wire.calls c.send_answer-in-Err.new.wire) (g.W.Wire.faults c.send_answer-in-Err.new.wire)) c.send_answer-in-Err.result c.send_answer-in-Err.ensures.goes_out c.requires.open
