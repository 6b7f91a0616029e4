use Rattle.std.proofs.Common.{◌≡◌}
use Rattle.server_sessions.proofs.Marks.{marked_from}
use Rattle.server_sessions.proofs.marking.mark_behind.Given as goal

abbrev pub invariant-loop-report : goal.invariant-loop-report
invariant-loop-report l = marked_from l.seen l.report-index l.handled ≡ marked_from l.initial.seen 0 l.handled
