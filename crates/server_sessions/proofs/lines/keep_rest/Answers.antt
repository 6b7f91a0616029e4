use Rattle.std.proofs.Common.{◌∙◌, ◌++◌, ◌<◌, length, ℕ, Some, true, sym, arith, length-append}
use Rattle.std.proofs.lemmas.Grind.{common_steps}
use Rattle.server_sessions.specs.declared.answers.limits.TheConstants.{LINE_NO_MEMORY}
use Rattle.server_sessions.specs.Reports.{silent}
use Rattle.server_sessions.specs.Wiring.{view_of}
use Rattle.server_sessions.proofs.ItemLemmas.{rest_long, rest_kept, rest_starved}
use Rattle.server_sessions.proofs.OpenLemmas.{done_open, kept_open}
use Rattle.server_sessions.proofs.lines.keep_rest.Goals as goal

pub returns-then-not-fits_line-clause-serves : goal.returns-then-not-fits_line-clause-serves
returns-then-not-fits_line-clause-serves g c = λ profile sheet.
    rest_long (silent profile) c.args.conn (c.args.front.now ++ c.args.rest.now) (view_of (g.W.Wire.calls c.args.wire.now) (g.W.Wire.faults c.args.wire.now)) (view_of (g.W.Wire.calls c.close_open.new.wire) (g.W.Wire.faults c.close_open.new.wire)) sheet
    (sym c.fits_line.ensures ∙ c.if-not-fits_line.true) c.close_open.ensures.done

pub returns-then-is_empty-clause-serves : goal.returns-then-is_empty-clause-serves
returns-then-is_empty-clause-serves g c = λ profile sheet.
    rest_kept (silent profile) c.args.conn (c.args.front.now ++ c.args.rest.now) (record { wire = view_of (g.W.Wire.calls c.args.wire.now) (g.W.Wire.faults c.args.wire.now); sheet = sheet }) (sym c.fits_line.ensures ∙ c.if-not-fits_line.false)

pub returns-then-is_err-clause-serves : goal.returns-then-is_err-clause-serves
returns-then-is_err-clause-serves g c = λ profile sheet.
    let some : 0 < length (c.args.front.now ++ c.args.rest.now) = simp (length-append {A = ℕ}) (grind (arith, common_steps)) in
    rest_starved (silent profile) c.args.conn (c.args.front.now ++ c.args.rest.now) (view_of (g.W.Wire.calls c.args.wire.now) (g.W.Wire.faults c.args.wire.now)) (view_of (g.W.Wire.calls c.send_answer.new.wire) (g.W.Wire.faults c.send_answer.new.wire)) sheet c.send_answer.result
    (sym c.fits_line.ensures ∙ c.if-not-fits_line.false) some c.send_answer.ensures.goes_out

pub returns-clause-serves : goal.returns-clause-serves
returns-clause-serves g c = λ profile sheet.
    rest_kept (silent profile) c.args.conn (c.args.front.now ++ c.args.rest.now) (record { wire = view_of (g.W.Wire.calls c.args.wire.now) (g.W.Wire.faults c.args.wire.now); sheet = sheet }) (sym c.fits_line.ensures ∙ c.if-not-fits_line.false)

pub returns-then-not-fits_line-clause-open : goal.returns-then-not-fits_line-clause-open
returns-then-not-fits_line-clause-open g c = done_open c.args.conn (view_of (g.W.Wire.calls c.args.wire.now) (g.W.Wire.faults c.args.wire.now)) (view_of (g.W.Wire.calls c.close_open.new.wire) (g.W.Wire.faults c.close_open.new.wire)) c.close_open.ensures.done

pub returns-then-is_err-clause-open : goal.returns-then-is_err-clause-open
returns-then-is_err-clause-open g c = kept_open c.args.conn (Some LINE_NO_MEMORY) true (view_of (g.W.Wire.calls c.args.wire.now) (g.W.Wire.faults c.args.wire.now)) (view_of (g.W.Wire.calls c.send_answer.new.wire) (g.W.Wire.faults c.send_answer.new.wire)) c.send_answer.result c.send_answer.ensures.goes_out c.requires.open
