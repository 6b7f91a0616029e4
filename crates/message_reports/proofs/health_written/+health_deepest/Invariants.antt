use Rattle.std.proofs.Common.{◌≡◌, min, take}
use Rattle.message_codec.specs.Means.{entry_of}
use Rattle.message_codec.proofs.Parts.{parts_depth}
use Rattle.message_reports.specs.HealthColumns.{health_columns}
use Rattle.message_reports.proofs.health_written.+health_deepest.Given as goal

abbrev pub invariant-loop-pair : goal.invariant-loop-pair
invariant-loop-pair l = l.most ≡ min (parts_depth (entry_of health_columns) (take l.pair-index l.pair-items)) 100
