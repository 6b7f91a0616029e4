use Rattle.std.proofs.Common.{length}
use Rattle.message_reports.specs.Reports.{ReportFault}
use Rattle.command_frames.proofs.Decided.{fails_within}
use Rattle.command_frames.proofs.families.AgentToServerOutermost.read.Goals as goal

pub returns-clause-place : goal.returns-clause-place
returns-clause-place c = fails_within (length c.args.bytes.now) (ReportFault c.args.bytes.now) c.decode_report.result (c.report_fault.ensures.within c.args.bytes.now) c.decode_report.ensures.refused
