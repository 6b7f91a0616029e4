use Rattle.std.proofs.Common.{◌≡◌, min, take}
use Rattle.message_codec.proofs.Parts.{parts_depth}
use Rattle.message_attributes.specs.AnyColumns.{any_columns, pair_columns}
use Rattle.message_attributes.proofs.any_written.+depth.Given as goal

abbrev pub invariant-array_deepest-loop-value : goal.invariant-array_deepest-loop-value
invariant-array_deepest-loop-value l = l.most ≡ min (parts_depth any_columns (take l.value-index l.values)) 100

abbrev pub invariant-kvlist_deepest-loop-pair : goal.invariant-kvlist_deepest-loop-pair
invariant-kvlist_deepest-loop-pair l = l.most ≡ min (parts_depth pair_columns (take l.pair-index l.pairs)) 100
