use Rattle.std.proofs.Common.{◌≡◌, min, take}
use Rattle.message_codec.specs.Means.{entry_of}
use Rattle.message_codec.proofs.Parts.{parts_depth}
use Rattle.message_reports.specs.ComponentColumns.{details_columns}
use Rattle.message_reports.proofs.components_written.+details_deepest.Given as goal

abbrev pub invariant-loop-pair : goal.invariant-loop-pair
invariant-loop-pair l = l.most ≡ min (parts_depth (entry_of details_columns) (take l.pair-index l.pair-items)) 100
