use Rattle.agent_stopped.proofs.Leading.{leads-none, leads-both, all-done, stopped-later, stopped-before, all-crashed}
use Rattle.agent_stopped.proofs.laws.stages_join.Goals as goal

pub returns-clause-none : goal.returns-clause-none
returns-clause-none c = leads-none

pub returns-clause-both : goal.returns-clause-both
returns-clause-both c = leads-both

pub returns-clause-stopped : goal.returns-clause-stopped
returns-clause-stopped c = stopped-later

pub returns-clause-stopped_before : goal.returns-clause-stopped_before
returns-clause-stopped_before c = stopped-before

pub returns-clause-done : goal.returns-clause-done
returns-clause-done c = all-done

pub returns-clause-crashed : goal.returns-clause-crashed
returns-clause-crashed c = all-crashed
