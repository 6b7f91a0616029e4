use Rattle.agent_stopped.proofs.Leading.{reports-end, hears-end, restarts-end}
use Rattle.agent_stopped.proofs.laws.events_are_their_calls.Goals as goal

pub returns-clause-reports : goal.returns-clause-reports
returns-clause-reports c = reports-end

pub returns-clause-hears : goal.returns-clause-hears
returns-clause-hears c = hears-end

pub returns-clause-restarts : goal.returns-clause-restarts
returns-clause-restarts c = restarts-end
