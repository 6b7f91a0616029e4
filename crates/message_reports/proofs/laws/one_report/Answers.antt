use Rattle.message_reports.proofs.Encoded.{same_report}
use Rattle.message_reports.proofs.laws.one_report.Goals as goal

pub returns : goal.returns
returns c = record { one = same_report }
