use Rattle.std.proofs.Common.{◌≡◌, take}
use Rattle.message_values.proofs.components.+same_details.Given as goal

abbrev pub invariant-loop-i : goal.invariant-loop-i
invariant-loop-i l = take l.i l.components ≡ take l.i l.others
