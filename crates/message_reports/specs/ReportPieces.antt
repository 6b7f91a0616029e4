-- What a reader of reports was fed.
use Rattle.std.specs.Prelude.{◌≡◌, ℕ, ◌<◌, ◌≤◌, List, length, Some, MatchOption}
use Rattle.message_codec.specs.Tables as tables
use Rattle.message_codec.specs.Means.{Means}
use Rattle.message_codec.specs.Standing.{IsBegun}
use Rattle.message_codec.specs.Held.{item_size}
use Rattle.message_codec.specs.Whole.{HasFed, levels_of}
use Rattle.message_codec.specs.declared.wire.field.Refused.{Refused}
use Rattle.message_codec.specs.declared.pieces.whole_reader.WholeReader.{WholeReader}
use Rattle.message_reports.specs.declared.report_parts.ReportPart.{ReportPart}
use Rattle.message_reports.specs.Pieces.{part_name, part_columns}
use Rattle.message_reports.specs.ReportColumns.{agent_to_server_draft_columns}
use Rattle.message_reports.specs.declared.report.AgentToServerDraft.{AgentToServerDraft}
use Rattle.message_reports.specs.declared.report_reader.ReportReader.{ReportReader}

-- The bytes are whole fields, which the report has.
pub record IsWhole (r : ReportReader) (bytes : List ℕ) : Type 0 where
  pub begun : IsBegun tables.AgentToServer (agent_to_server_draft_columns r.report) bytes
  pub place : r.place ≡ length bytes

-- These bytes were fed.
abbrev pub WasFed : ReportReader → List ℕ → Type 0
WasFed r bytes = MatchOption r.pieces (IsWhole r bytes) (λ b. HasFed part_name part_columns tables.AgentToServer b.value bytes)

-- No feed was refused.
pub record IsInUse (r : ReportReader) : Type 0 where
  pub bytes : List ℕ
  pub fed : WasFed r bytes

-- Of the bytes that are kept so many are of the item that isn't whole.
abbrev pub HoldsOf : ReportReader → ℕ → Type 0
HoldsOf r held = MatchOption r.pieces (held ≡ 0) (λ b. held ≡ item_size b.value.reader.field.items)

-- So many messages are open: the report alone, as long as each piece ended where a field of it does.
abbrev pub HasOpen : ReportReader → ℕ → Type 0
HasOpen r levels = MatchOption r.pieces (levels ≡ 1) (λ b. levels ≡ levels_of b.value)

-- A payload is passed over that the table hasn't.
abbrev pub IsPassing : ReportReader → Type 0
IsPassing r = MatchOption r.pieces ⊥ (λ b. 0 < b.value.reader.skip)

-- A fault was found.
abbrev pub HasFailed : ReportReader → Type 0
HasFailed r = MatchOption r.pieces ⊥ (λ b. (e : Refused) × (b.value.reader.failure ≡ Some e))

-- The bytes, at most 4,194,304, mean the report that is read.
abbrev pub MeansDraft : List ℕ → AgentToServerDraft → Type 0
MeansDraft bytes draft = (length bytes ≤ 4194304) × Means 100 tables.AgentToServer bytes (agent_to_server_draft_columns draft)

-- The reader of pieces was fed bytes of a report.
pub record WasReadOn (r : WholeReader ReportPart) : Type 0 where
  pub bytes : List ℕ
  pub fed : HasFed part_name part_columns tables.AgentToServer r bytes
