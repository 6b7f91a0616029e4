use Rattle.edge_devices.proofs.Shelving.{empty_shelves}
use Rattle.edge_devices.proofs.shelves.Shelves.new.Goals as goal

pub returns : goal.returns
returns c = record { empty = empty_shelves _ c.new.ensures.empty c.new-2.ensures.empty c.new-3.ensures.empty }
