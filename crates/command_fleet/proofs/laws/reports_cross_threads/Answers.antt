use Rattle.message_values.proofs.Sending.{report_send}
use Rattle.command_fleet.proofs.laws.reports_cross_threads.Goals as goal

pub returns : goal.returns
returns c = record { sent = report_send }
