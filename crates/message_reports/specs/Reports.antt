-- What bytes say as the report of an agent (OpAMP specification, "AgentToServer Message"), which bytes are none, and those that a report is
-- written as.
use Rattle.std.specs.Prelude.{◌≡◌, ℕ, ◌<◌, ◌≤◌, List, length}
use Rattle.message_codec.specs.declared.wire.field.Why.{Why}
use Rattle.message_values.specs.declared.report.AgentToServer.{AgentToServer}
use Rattle.message_codec.specs.Tables as tables
use Rattle.message_codec.specs.Means.{Means}
use Rattle.message_codec.specs.Faults.{WholeFault}
use Rattle.message_codec.specs.declared.writer.encoding.WriteFail.{WriteFail}
use Rattle.message_codec.specs.declared.writer.encoding.WriteFail.TheVariants.{TooLarge, TooDeep, NoMemory}
use Rattle.message_codec.specs.Canonical.{canonical}
use Rattle.message_codec.specs.Levels.{levels, most_bytes}
use Rattle.message_reports.specs.ReportColumns.{agent_to_server_columns}

-- the bytes, at most 4,194,304, mean this report, with messages at most 100 deep
abbrev pub MeansReport : List ℕ → AgentToServer → Type 0
MeansReport bytes report = (length bytes ≤ 4194304) × Means 100 tables.AgentToServer bytes (agent_to_server_columns report)

-- the bytes are no report: this is their first fault, or they are too many
abbrev pub ReportFault : List ℕ → ℕ → Why → Type 0
ReportFault bytes at why = WholeFault tables.AgentToServer bytes at why

-- the canonical bytes of a report
unfoldable pub canonical_report : AgentToServer → List ℕ
canonical_report report = canonical tables.AgentToServer (agent_to_server_columns report)

-- the levels of messages in a report, itself included
abbrev pub report_levels : AgentToServer → ℕ
report_levels report = levels (agent_to_server_columns report)

-- the bytes are those of a report that is neither too large nor too deep
pub record IsWrittenReport (report : AgentToServer) (bytes : List ℕ) : Type 0 where
  pub bytes_are : bytes ≡ canonical_report report
  pub fits : length bytes ≤ most_bytes
  pub shallow : report_levels report ≤ 100

-- why a report isn't written: too many bytes before too many levels, and memory may run out at any
abbrev pub ReportFails : AgentToServer → WriteFail → Type 0
ReportFails report TooLarge = most_bytes < length (canonical_report report)
ReportFails report TooDeep = (length (canonical_report report) ≤ most_bytes) × (100 < report_levels report)
ReportFails report NoMemory = Unit {0}
