use Rattle.command_frames.specs.Families.{reports, replies}
use Rattle.command_frames.proofs.Decided.{IsDecided}
use Rattle.command_frames.proofs.Endings.{for_each}
use Rattle.command_frames.specs.Showing.{headed}
use Rattle.command_frames.specs.Checking.{checked_line}
use Rattle.command_frames.proofs.Meaning.{replies_once, rewrites_once, numbers_once}
use Rattle.command_frames.specs.declared.commands.StreamCommand.{StreamCommand}
use Rattle.command_streams.specs.Made.{IsSingleValued}
use Rattle.command_frames.specs.Commands.{makes}
use Rattle.command_frames.proofs.laws.one_thing_is_made.Goals as goal

pub returns : goal.returns
returns c =
    let of_reports : IsDecided reports = record { one = c.one_report.ensures.one; never_both = c.report_fault.ensures.not_both; one_fault = c.report_fault.ensures.one_fault } in
    let of_replies : IsDecided replies = record { one = c.one_reply.ensures.one; never_both = c.reply_fault.ensures.not_both; one_fault = c.reply_fault.ensures.one_fault } in
    record { once = for_each (λ (command : StreamCommand). IsSingleValued (makes command)) (replies_once of_reports) (rewrites_once reports of_reports) (rewrites_once replies of_replies) (numbers_once reports of_reports (headed reports)) (numbers_once replies of_replies (headed replies)) (numbers_once reports of_reports checked_line) }
