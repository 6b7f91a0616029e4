use Rattle.std.proofs.Common.{◌≡◌, ◌<◌, ◌^◌, length, take}
use Rattle.message_codec.specs.Row.{appended}
use Rattle.message_codec.specs.Tables as tables
use Rattle.message_codec.specs.Canonical.{canonical}
use Rattle.message_codec.proofs.Parts.{parts_bytes, entry_content}
use Rattle.message_reports.specs.ComponentColumns.{details_columns}
use Rattle.message_reports.proofs.components_written.+put_details.Given as goal

abbrev pub invariant-loop-pair : goal.invariant-loop-pair
invariant-loop-pair l = length (canonical tables.ComponentDetails (details_columns l.details)) < 2 ^ 62 → l.out ≡ appended l.initial.out (parts_bytes (entry_content details_columns tables.ComponentDetails) 2 (take l.pair-index l.pair-items))
