use Rattle.world_scripts.proofs.CutLemmas.{lines_in-cut, lines_in-free}
use Rattle.world_scripts.proofs.cuts.first_line.Goals as goal

pub returns-in-Some-clause-lines : goal.returns-in-Some-clause-lines
returns-in-Some-clause-lines c = rw c.in-Some.ensures.found.whole (lines_in-cut _ _ c.in-Some.ensures.found.first)

pub returns-in-None-clause-lines : goal.returns-in-None-clause-lines
returns-in-None-clause-lines c = lines_in-free _ c.in-None.ensures.none c.requires
