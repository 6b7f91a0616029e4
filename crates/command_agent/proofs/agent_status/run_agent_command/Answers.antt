use Rattle.std.proofs.Common.{subst}
use Rattle.command_agent.specs.Statuses.{IsSilentStatus}
use Rattle.command_agent.proofs.OutcomeLemmas.{agent_outcome, silent_at}
use Rattle.command_agent.proofs.agent_status.run_agent_command.Goals as goal

pub returns-clause-outcome : goal.returns-clause-outcome
returns-clause-outcome g c = rw c.code.ensures.code (agent_outcome _ _ _ _ _ c.run_agent-status.result (record {
  ended = c.run_agent-status.ensures.ended;
  restarted = c.run_agent-status.ensures.restarted;
  rounds_spent = c.run_agent-status.ensures.rounds_spent;
  damaged = c.run_agent-status.ensures.damaged;
  damage_told = c.run_agent-status.ensures.damage_told;
  numbers_spent = c.run_agent-status.ensures.numbers_spent;
  too_large = c.run_agent-status.ensures.too_large;
  write_fault = c.run_agent-status.ensures.write_fault;
  store_fault = c.run_agent-status.ensures.store_fault;
  outside_fault = c.run_agent-status.ensures.outside_fault;
}))

pub returns-clause-silent : goal.returns-clause-silent
returns-clause-silent g c = λ is. c.run_agent-status.ensures.silent (silent_at c.run_agent-status.result (subst IsSilentStatus c.code.ensures.code is))

pub run_agent-status-requires : goal.run_agent-status-requires
run_agent-status-requires g c = record { endpoint = c.requires.endpoint }
