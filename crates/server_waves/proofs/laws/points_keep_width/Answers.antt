use Rattle.server_waves.proofs.PointLemmas.{rolled_halted, rolled_width}
use Rattle.server_waves.proofs.laws.points_keep_width.Goals as goal

pub returns-clause-width : goal.returns-clause-width
returns-clause-width c = λ fine heard table rolling. rolled_width fine heard table rolling

pub returns-clause-halt : goal.returns-clause-halt
returns-clause-halt c = λ fine heard table rolling halted. rolled_halted fine heard table rolling halted
