use Rattle.std.proofs.Common.{refl}
use Rattle.message_reports.specs.Reports.{ReportFault}
use Rattle.command_frames.specs.Checking.{checked_line}
use Rattle.command_frames.specs.Families.{reports}
use Rattle.command_frames.specs.declared.check.Check.{Check}
use Rattle.command_frames.proofs.Histories.{NumbersBy}
use Rattle.command_frames.proofs.Refusals.{refused_of, refusal_gives}
use Rattle.command_frames.proofs.check.CheckHandler.handle.Goals as goal

pub returns-in-Err-clause-gives : goal.returns-in-Err-clause-gives
returns-in-Err-clause-gives c =
    refusal_gives (NumbersBy reports checked_line (λ (check : Check). check.checked)) c.args.self.now c.args.message.now c.args.output.now.bytes (ReportFault c.args.message.now) (λ at why fault. (fault, refl)) c.in-Err.fail c.refusal.result (refused_of (ReportFault c.args.message.now) c.read.result c.in-Err.fail c.in-Err.is c.read.ensures.refused) c.refusal.ensures.refused
