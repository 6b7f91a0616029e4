use Rattle.world_lab.proofs.Events.{line_makes}
use Rattle.world_lab.proofs.laws.lines_make_one_event.Goals as goal

pub returns : goal.returns
returns c = record { one = λ p line. line_makes p line }
