use Rattle.std.specs.List.{AllByRecursion}
use Rattle.std.proofs.Common.{◌≡◌, ◌≤◌, ◌^◌, take}
use Rattle.message_codec.specs.Tables as tables
use Rattle.message_codec.specs.Canonical.{plus_length}
use Rattle.message_codec.proofs.Parts.{parts_bytes, entry_content, fits_entry}
use Rattle.message_reports.specs.ComponentColumns.{details_columns}
use Rattle.message_reports.proofs.components_written.+details_len.Given as goal

abbrev pub invariant-loop-pair : goal.invariant-loop-pair
invariant-loop-pair l = record { bound : l.total ≤ 2 ^ 62; counted : l.total ≡ plus_length l.initial.total (parts_bytes (entry_content details_columns tables.ComponentDetails) 2 (take l.pair-index l.pair-items)); fit : AllByRecursion (fits_entry details_columns tables.ComponentDetails) (take l.pair-index l.pair-items) }
