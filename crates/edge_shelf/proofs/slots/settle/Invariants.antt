use Rattle.std.proofs.Common.{◌≡◌, map, take}
use Rattle.plain_values.specs.Pairs.{on_value}
use Rattle.edge_shelf.specs.MemoryShelves.{settled_slot}
use Rattle.edge_shelf.proofs.slots.settle.Given as goal

abbrev pub invariant-loop-pair : goal.invariant-loop-pair
invariant-loop-pair l = l.made ≡ map (on_value (settled_slot l.mode)) (take l.pair-index l.pairs)
