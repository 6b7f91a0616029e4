use Rattle.edge_devices.proofs.Shelving.{Gathers}
use Rattle.edge_devices.proofs.shelves.names_of.Given as goal

abbrev pub invariant-loop-pair : goal.invariant-loop-pair
invariant-loop-pair l = Gathers l.files l.pair-index l.names
