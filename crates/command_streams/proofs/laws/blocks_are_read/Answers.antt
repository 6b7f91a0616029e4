use Rattle.command_streams.proofs.Progress.{IsReadTo-start, IsReadTo-filled, IsReadTo-passed}
use Rattle.command_streams.proofs.laws.blocks_are_read.Goals as goal

pub returns-clause-start : goal.returns-clause-start
returns-clause-start g c = λ start budget room input. IsReadTo-start g.C.Told.makes start budget room input

pub returns-clause-filled : goal.returns-clause-filled
returns-clause-filled g c = λ start budget held held' state input left left' supply. IsReadTo-filled g.C.Told.makes start budget held held' state input left left' supply

pub returns-clause-passed : goal.returns-clause-passed
returns-clause-passed g c = λ start budget held held' state state' input left. IsReadTo-passed g.C.Told.makes start budget held held' state state' input left
