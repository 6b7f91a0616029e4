use Rattle.std.proofs.Common.{refl}
use Rattle.world_lab.proofs.LabStates.{state_is}
use Rattle.world_lab.proofs.lab.Lab.new.Goals as goal

pub returns-clause-unplayed : goal.returns-clause-unplayed
returns-clause-unplayed c = state_is _ _ _ _ _ _ _ _ refl (cc) c.empty_disk.ensures.blank c.empty_folder.ensures.empty

pub returns-clause-disk : goal.returns-clause-disk
returns-clause-disk c = c.empty_disk.ensures.sound

pub returns-clause-folder : goal.returns-clause-folder
returns-clause-folder c = c.empty_folder.ensures.sound
