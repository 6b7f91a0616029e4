use Rattle.agent_stopped.proofs.Unarmed.{calls_pass, event_passes, none_stopped}
use Rattle.agent_stopped.proofs.laws.unarmed_stops_nothing.Goals as goal

pub returns-clause-calls : goal.returns-clause-calls
returns-clause-calls c = calls_pass

pub returns-clause-events : goal.returns-clause-events
returns-clause-events c = event_passes

pub returns-clause-stopped : goal.returns-clause-stopped
returns-clause-stopped c = none_stopped
