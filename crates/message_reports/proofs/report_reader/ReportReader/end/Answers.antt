use Rattle.message_reports.proofs.report_reader.ReportReader.end.Goals as goal

pub returns-in-Ok-clause-means : goal.returns-in-Ok-clause-means
returns-in-Ok-clause-means c bytes h = rw c.into_report.ensures.report (c.in-Ok.ensures.means bytes h)

pub returns-in-Err-clause-refused : goal.returns-in-Err-clause-refused
returns-in-Err-clause-refused c bytes h = c.in-Err.ensures.refused bytes h
