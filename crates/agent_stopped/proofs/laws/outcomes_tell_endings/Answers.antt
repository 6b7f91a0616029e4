use Rattle.agent_stopped.proofs.Leading.{done-tells, crashed-tells}
use Rattle.agent_stopped.proofs.laws.outcomes_tell_endings.Goals as goal

pub returns-clause-done : goal.returns-clause-done
returns-clause-done c = done-tells

pub returns-clause-crashed : goal.returns-clause-crashed
returns-clause-crashed c = crashed-tells
