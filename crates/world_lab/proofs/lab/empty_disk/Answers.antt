use Rattle.world_lab.proofs.LabStates.{blank_reads}
use Rattle.world_lab.proofs.lab.empty_disk.Goals as goal

pub returns-clause-blank : goal.returns-clause-blank
returns-clause-blank c = blank_reads _ _ c.new.ensures.blank
