use Rattle.std.proofs.Common.{◌≡◌, take}
use Rattle.message_values.proofs.health.+copy_health.Given as goal

abbrev pub invariant-loop-pair : goal.invariant-loop-pair
invariant-loop-pair l = l.components.items ≡ take l.pair-index l.pair-items
