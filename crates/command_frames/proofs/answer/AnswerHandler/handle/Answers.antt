use Rattle.command_frames.proofs.Refusals.{refused_of, server_refuses, refusal_within}
use Rattle.std.proofs.Common.{length}
use Rattle.message_reports.specs.Reports.{ReportFault}
use Rattle.command_frames.proofs.Decided.{refused_within}
use Rattle.command_frames.proofs.answer.AnswerHandler.handle.Goals as goal

pub returns-clause-gives : goal.returns-clause-gives
returns-clause-gives c = server_refuses c.args.self.now c.args.message.now c.args.output.now.bytes c.in-Err.fail c.refusal.result (refused_of (ReportFault c.args.message.now) c.decode_report-read.result c.in-Err.fail c.in-Err.is c.decode_report-read.ensures.refused) c.refusal.ensures.refused

pub returns-clause-place : goal.returns-clause-place
returns-clause-place c = refusal_within c.args.message.now c.in-Err.fail c.refusal.result (refused_within (length c.args.message.now) (ReportFault c.args.message.now) c.in-Err.fail (c.report_fault.ensures.within c.args.message.now) (refused_of (ReportFault c.args.message.now) c.decode_report-read.result c.in-Err.fail c.in-Err.is c.decode_report-read.ensures.refused)) c.refusal.ensures.refused
