use Rattle.std.proofs.Common.{◌∙◌, ◌++◌, Some, true, sym}
use Rattle.server_sessions.specs.declared.answers.limits.TheConstants.{LINE_NO_MEMORY}
use Rattle.server_lines.specs.Sights.{numbers_in, sight_of}
use Rattle.server_sessions.specs.Reports.{silent}
use Rattle.server_sessions.specs.Answers.{sheet_of}
use Rattle.server_sessions.specs.Wiring.{view_of}
use Rattle.server_sessions.proofs.ItemLemmas.{next_long, next_starved}
use Rattle.server_sessions.proofs.OpenLemmas.{done_open, kept_open}
use Rattle.server_sessions.proofs.lines.serve_next.Goals as goal

pub returns-then-not-fits_line-clause-serves : goal.returns-then-not-fits_line-clause-serves
returns-then-not-fits_line-clause-serves g c = λ entropy.
    next_long (silent c.args.desk.now.server.profile) c.args.conn (c.args.front.now ++ c.args.segment.now) (sight_of c.args.seen.now (numbers_in c.args.known.now.entries)) (view_of (g.W.Wire.calls c.args.wire.now) (g.W.Wire.faults c.args.wire.now)) (view_of (g.W.Wire.calls c.close_open.new.wire) (g.W.Wire.faults c.close_open.new.wire))
    (sheet_of entropy c.args.desk.now.server.table c.args.desk.now.rollouts c.args.noted.now) c.args.noted.now.stop (sym c.fits_line.ensures ∙ c.if-not-fits_line.true) c.requires.stop c.close_open.ensures.done

pub returns-then-is_err-clause-serves : goal.returns-then-is_err-clause-serves
returns-then-is_err-clause-serves g c = λ entropy.
    next_starved (silent c.args.desk.now.server.profile) c.args.conn (c.args.front.now ++ c.args.segment.now) (sight_of c.args.seen.now (numbers_in c.args.known.now.entries)) (view_of (g.W.Wire.calls c.args.wire.now) (g.W.Wire.faults c.args.wire.now)) (view_of (g.W.Wire.calls c.send_answer.new.wire) (g.W.Wire.faults c.send_answer.new.wire)) entropy
    c.args.desk.now.server.table c.args.desk.now.rollouts c.args.noted.now.handled c.args.noted.now.ordered c.args.noted.now.entries c.send_answer.result c.args.noted.now.stop (sym c.fits_line.ensures ∙ c.if-not-fits_line.false) c.requires.stop c.send_answer.ensures.goes_out

pub returns-then-not-fits_line-clause-open : goal.returns-then-not-fits_line-clause-open
returns-then-not-fits_line-clause-open g c = done_open c.args.conn (view_of (g.W.Wire.calls c.args.wire.now) (g.W.Wire.faults c.args.wire.now)) (view_of (g.W.Wire.calls c.close_open.new.wire) (g.W.Wire.faults c.close_open.new.wire)) c.close_open.ensures.done

pub returns-then-is_err-clause-open : goal.returns-then-is_err-clause-open
returns-then-is_err-clause-open g c = kept_open c.args.conn (Some LINE_NO_MEMORY) true (view_of (g.W.Wire.calls c.args.wire.now) (g.W.Wire.faults c.args.wire.now)) (view_of (g.W.Wire.calls c.send_answer.new.wire) (g.W.Wire.faults c.send_answer.new.wire)) c.send_answer.result c.send_answer.ensures.goes_out c.requires.open
