use Rattle.world_lab.proofs.LabStates.{empty_folder_is}
use Rattle.world_lab.proofs.lab.empty_folder.Goals as goal

pub returns-clause-empty : goal.returns-clause-empty
returns-clause-empty c = empty_folder_is _ c.new.ensures.empty
