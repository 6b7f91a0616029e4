use Rattle.message_codec.specs.Tables as tables
use Rattle.message_reports.proofs.ReportFed.{boxed_fed}
use Rattle.message_reports.proofs.report_reader.ReportReader.fail.Goals as goal

pub returns : goal.returns
returns c = record { failed = λ bytes count few fails. boxed_fed _ c.failed-reader.result bytes c.in_ok-boxed.ensures.ok (c.failed-reader.ensures.fed tables.AgentToServer bytes count few fails) }
