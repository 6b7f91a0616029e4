use Rattle.command_streams.proofs.Progress.{IsReadTo-stopped, IsReadTo-ended, IsReadTo-spent}
use Rattle.command_streams.proofs.laws.blocks_are_one_input.Goals as goal

pub returns-clause-stopped : goal.returns-clause-stopped
returns-clause-stopped g c = λ start budget held state now input left stop. IsReadTo-stopped g.C.Told.makes start budget held state now input left stop

pub returns-clause-ended : goal.returns-clause-ended
returns-clause-ended g c = λ start budget held state input left. IsReadTo-ended g.C.Told.makes start budget held state input left

pub returns-clause-spent : goal.returns-clause-spent
returns-clause-spent g c = λ start budget held state input left. IsReadTo-spent g.C.Told.makes start budget held state input left
