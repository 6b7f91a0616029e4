use Rattle.command_frames.specs.Families.{reports, replies}
use Rattle.command_frames.specs.declared.commands.StreamCommand.{StreamCommand}
use Rattle.command_streams.specs.Telling.{IsTotal}
use Rattle.command_frames.specs.Commands.{makes}
use Rattle.command_frames.proofs.Endings.{for_each}
use Rattle.command_frames.specs.Showing.{headed}
use Rattle.command_frames.specs.Checking.{checked_line}
use Rattle.command_frames.proofs.Meaning.{replies_total, rewrites_total, numbers_total}
use Rattle.command_frames.proofs.laws.something_is_made.Goals as goal

pub returns : goal.returns
returns c =
    let of_reports = c.report_or_fault.ensures.either in
    let of_replies = c.reply_or_fault.ensures.either in
    record { total = for_each (λ (command : StreamCommand). IsTotal (makes command)) (replies_total of_reports) (rewrites_total reports of_reports) (rewrites_total replies of_replies) (numbers_total reports (headed reports) of_reports) (numbers_total replies (headed replies) of_replies) (numbers_total reports checked_line of_reports) }
