use Rattle.message_codec.specs.Tables as tables
use Rattle.message_attributes.proofs.Made.{value_or_fault}
use Rattle.message_reports.specs.ReportColumns.{agent_to_server_columns}
use Rattle.message_reports.proofs.Made.{report_made}
use Rattle.message_reports.proofs.laws.report_or_fault.Goals as goal

pub returns : goal.returns
returns c = record { either = value_or_fault tables.AgentToServer agent_to_server_columns (report_made 100) }
