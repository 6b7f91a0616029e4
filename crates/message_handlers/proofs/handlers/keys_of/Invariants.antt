use Rattle.std.proofs.Common.{◌≡◌, map, take}
use Rattle.message_handlers.proofs.handlers.keys_of.Given as goal

abbrev pub invariant-loop-pair : goal.invariant-loop-pair
invariant-loop-pair l = l.keys ≡ map (λ pair. pair.key) (take l.pair-index l.pairs)
