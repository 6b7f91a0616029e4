use Rattle.edge_shelf.proofs.Gathering.{Gathers}
use Rattle.edge_shelf.proofs.slots.names.Given as goal

abbrev pub invariant-loop-pair : goal.invariant-loop-pair
invariant-loop-pair l = Gathers l.slots l.pair-index l.names
