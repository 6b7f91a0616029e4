use Rattle.std.proofs.Common.{◌≡◌, take}
use Rattle.message_values.proofs.attributes.+same_value.Given as goal

abbrev pub invariant-same_pairs-loop-i : goal.invariant-same_pairs-loop-i
invariant-same_pairs-loop-i l = take l.i l.pairs ≡ take l.i l.others

abbrev pub invariant-same_values-loop-i : goal.invariant-same_values-loop-i
invariant-same_values-loop-i l = take l.i l.values ≡ take l.i l.others
