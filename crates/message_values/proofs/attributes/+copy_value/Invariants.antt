use Rattle.std.proofs.Common.{◌≡◌, take}
use Rattle.message_values.proofs.attributes.+copy_value.Given as goal

abbrev pub invariant-copy_pairs-loop-pair : goal.invariant-copy_pairs-loop-pair
invariant-copy_pairs-loop-pair l = l.copied ≡ take l.pair-index l.pairs

abbrev pub invariant-copy_values-loop-value : goal.invariant-copy_values-loop-value
invariant-copy_values-loop-value l = l.copied ≡ take l.value-index l.values
