use Rattle.std.proofs.Common.{refl}
use Rattle.message_codec.specs.Tables as tables
use Rattle.message_codec.proofs.Whole.{begun_nothing}
use Rattle.message_reports.specs.ReportColumns.{agent_to_server_draft_columns}
use Rattle.message_reports.proofs.report_reader.ReportReader.new.Goals as goal

pub returns : goal.returns
returns c = record { nothing = record { begun = begun_nothing tables.AgentToServer (agent_to_server_draft_columns c.empty.result) c.empty.ensures.empty; place = refl } }
