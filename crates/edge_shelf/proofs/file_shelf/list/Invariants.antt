use Rattle.edge_devices.specs.Folders.{AreGood}
use Rattle.edge_shelf.proofs.file_shelf.list.Given as goal

abbrev pub invariant-loop-entry : goal.invariant-loop-entry
invariant-loop-entry g l = AreGood l.names
