use Rattle.message_reports.proofs.decoding.decode_report.Goals as goal

pub returns-in-Ok-clause-means : goal.returns-in-Ok-clause-means
returns-in-Ok-clause-means c = rw c.report_in.ensures.report c.in-Ok.ensures.means
