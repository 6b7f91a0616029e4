use Rattle.server_waves.proofs.CourseLemmas.{halted_always, offered_always, table_stays, wait_always}
use Rattle.server_waves.specs.Courses.{course}
use Rattle.server_waves.proofs.laws.halt_is_final.Goals as goal

pub returns-clause-halted : goal.returns-clause-halted
returns-clause-halted c = λ fine terms steps more halted none. halted_always fine terms steps more halted none

pub returns-clause-offered : goal.returns-clause-offered
returns-clause-offered c = λ fine terms steps more halted none. offered_always fine terms steps more halted none

pub returns-clause-waiting : goal.returns-clause-waiting
returns-clause-waiting c = λ fine terms steps more halted none stay. wait_always fine terms steps more halted none stay

pub returns-clause-table : goal.returns-clause-table
returns-clause-table c = λ fine terms steps table halted. table_stays fine terms table (course fine terms steps) halted
