use Rattle.std.proofs.Common.{◌∙◌}
use Rattle.server_sessions.proofs.Marks.{marked_more}
use Rattle.server_sessions.proofs.marking.mark_behind.Goals as goal

pub loop-report-preserved : goal.loop-report-preserved
loop-report-preserved c =
    marked_more c.loop-report.seen c.mark.new.seen c.loop-report.report-index c.report-item.result c.args.handled.now c.loop-report-test.true c.report-item.is c.in_ok-mark.ensures.marked
    ∙ c.loop-report.invariant
