use Rattle.message_handlers.specs.Asking.{MayAnswer}
use Rattle.std.proofs.Common.{inl, refl, subst}
use Rattle.command_top.specs.Words.{CanRun}
use Rattle.command_top.proofs.NotedCommands.{stream_noted}
use Rattle.command_top.proofs.Outcomes.{stream_outcome}
use Rattle.command_top.proofs.Statuses.{agent_not_2, agent_not_3, fault_outside, rollout_not_2, rollout_not_3, rollout_not_6, storm_not_2, storm_not_3, storm_not_6, storm_not_8}
use Rattle.command_top.proofs.top.opamp_run.Goals as goal

-- ---- `answer`, `canon` and `show`

pub returns-in-Stream-clause-ran : goal.returns-in-Stream-clause-ran
returns-in-Stream-clause-ran g c = rw c.in-Stream.is (stream_outcome _ c.in-Stream.command _ _ _ c.noted_stream.result (record {
  outcome = c.noted_stream.ensures.outcome;
  agents_kept = record { disk = refl; folder = refl; dialer = refl; clock = refl };
  wire_kept = refl;
  entropy_kept = refl;
  lab_kept = refl;
}))

pub returns-in-Stream-clause-store_fault : goal.returns-in-Stream-clause-store_fault
returns-in-Stream-clause-store_fault g c = λ is. absurd (c.noted_stream.ensures.no_store_fault is)

pub returns-in-Stream-clause-outside_fault : goal.returns-in-Stream-clause-outside_fault
returns-in-Stream-clause-outside_fault g c = λ is. absurd (c.noted_stream.ensures.no_outside_fault is)

-- ---- `simulate`

pub returns-in-Simulate-clause-ran : goal.returns-in-Simulate-clause-ran
returns-in-Simulate-clause-ran g c = rw c.in-Simulate.is (record {
  outcome = c.noted_simulate.ensures.outcome;
  agents_kept = record { disk = refl; folder = refl; dialer = refl; clock = refl };
  wire_kept = refl;
  entropy_kept = refl;
})

pub noted_simulate-requires : goal.noted_simulate-requires
noted_simulate-requires g c = record { unplayed = c.requires.unplayed }

pub returns-in-Simulate-clause-store_fault : goal.returns-in-Simulate-clause-store_fault
returns-in-Simulate-clause-store_fault g c = λ is. absurd (c.noted_simulate.ensures.no_store_fault is)

pub returns-in-Simulate-clause-outside_fault : goal.returns-in-Simulate-clause-outside_fault
returns-in-Simulate-clause-outside_fault g c = λ is. absurd (c.noted_simulate.ensures.no_outside_fault is)

-- ---- `storm`

pub returns-in-Storm-clause-ran : goal.returns-in-Storm-clause-ran
returns-in-Storm-clause-ran g c = rw c.in-Storm.is (record {
  outcome = c.noted_storm.ensures.outcome;
  silent = c.noted_storm.ensures.silent;
  agents_kept = record { disk = refl; folder = refl; dialer = refl; clock = refl };
  source_kept = refl;
  wire_kept = refl;
  entropy_kept = refl;
})

pub noted_storm-requires : goal.noted_storm-requires
noted_storm-requires g c = record { unplayed = c.requires.unplayed; few = subst CanRun c.in-Storm.is c.requires.can_run }

pub returns-in-Storm-clause-no_wrong_words : goal.returns-in-Storm-clause-no_wrong_words
returns-in-Storm-clause-no_wrong_words g c = λ is. storm_not_2 c.noted_storm.result c.noted_storm.ensures.outcome.statuses is

pub returns-in-Storm-clause-read_fault : goal.returns-in-Storm-clause-read_fault
returns-in-Storm-clause-read_fault g c = λ is. absurd (storm_not_3 c.noted_storm.result c.noted_storm.ensures.outcome.statuses is)

pub returns-in-Storm-clause-read_fault_leaves : goal.returns-in-Storm-clause-read_fault_leaves
returns-in-Storm-clause-read_fault_leaves g c = λ is. absurd (storm_not_3 c.noted_storm.result c.noted_storm.ensures.outcome.statuses is)

pub returns-in-Storm-clause-write_fault : goal.returns-in-Storm-clause-write_fault
returns-in-Storm-clause-write_fault g c = c.noted_storm.ensures.outcome.write_fault

pub returns-in-Storm-clause-store_fault : goal.returns-in-Storm-clause-store_fault
returns-in-Storm-clause-store_fault g c = λ is. absurd (storm_not_6 c.noted_storm.result c.noted_storm.ensures.outcome.statuses is)

pub returns-in-Storm-clause-outside_fault : goal.returns-in-Storm-clause-outside_fault
returns-in-Storm-clause-outside_fault g c = λ is. absurd (storm_not_8 c.noted_storm.result c.noted_storm.ensures.outcome.statuses is)

-- ---- `serve`

pub returns-in-Serve-clause-ran : goal.returns-in-Serve-clause-ran
returns-in-Serve-clause-ran g c = rw c.in-Serve.is (record {
  outcome = c.run_serve_command.ensures.outcome;
  silent = c.run_serve_command.ensures.silent;
  agents_kept = record { disk = refl; folder = refl; dialer = refl; clock = refl };
  source_kept = refl;
  lab_kept = refl;
})

pub returns-in-Serve-clause-no_wrong_words : goal.returns-in-Serve-clause-no_wrong_words
returns-in-Serve-clause-no_wrong_words g c = λ is. rollout_not_2 c.run_serve_command.result c.run_serve_command.ensures.outcome.statuses is

pub returns-in-Serve-clause-read_fault : goal.returns-in-Serve-clause-read_fault
returns-in-Serve-clause-read_fault g c = λ is. absurd (rollout_not_3 c.run_serve_command.result c.run_serve_command.ensures.outcome.statuses is)

pub returns-in-Serve-clause-write_fault : goal.returns-in-Serve-clause-write_fault
returns-in-Serve-clause-write_fault g c = c.run_serve_command.ensures.outcome.write_fault

pub returns-in-Serve-clause-store_fault : goal.returns-in-Serve-clause-store_fault
returns-in-Serve-clause-store_fault g c = λ is. absurd (rollout_not_6 c.run_serve_command.result c.run_serve_command.ensures.outcome.statuses is)

pub returns-in-Serve-clause-outside_fault : goal.returns-in-Serve-clause-outside_fault
returns-in-Serve-clause-outside_fault g c = λ is. inl (c.run_serve_command.ensures.outcome.wire_fault is)

-- ---- `serve --rollout`

pub returns-in-Rollout-clause-ran : goal.returns-in-Rollout-clause-ran
returns-in-Rollout-clause-ran g c = rw c.in-Rollout.is (record {
  outcome = c.run_rollout_command.ensures.outcome;
  untouched = c.run_rollout_command.ensures.untouched;
  silent = c.run_rollout_command.ensures.silent;
  agents_kept = record { disk = refl; folder = refl; dialer = refl; clock = refl };
  source_kept = refl;
  lab_kept = refl;
})

pub returns-in-Rollout-clause-no_wrong_words : goal.returns-in-Rollout-clause-no_wrong_words
returns-in-Rollout-clause-no_wrong_words g c = λ is. rollout_not_2 c.run_rollout_command.result c.run_rollout_command.ensures.outcome.statuses is

pub returns-in-Rollout-clause-read_fault : goal.returns-in-Rollout-clause-read_fault
returns-in-Rollout-clause-read_fault g c = λ is. absurd (rollout_not_3 c.run_rollout_command.result c.run_rollout_command.ensures.outcome.statuses is)

pub returns-in-Rollout-clause-write_fault : goal.returns-in-Rollout-clause-write_fault
returns-in-Rollout-clause-write_fault g c = c.run_rollout_command.ensures.outcome.write_fault

pub returns-in-Rollout-clause-store_fault : goal.returns-in-Rollout-clause-store_fault
returns-in-Rollout-clause-store_fault g c = λ is. absurd (rollout_not_6 c.run_rollout_command.result c.run_rollout_command.ensures.outcome.statuses is)

pub returns-in-Rollout-clause-outside_fault : goal.returns-in-Rollout-clause-outside_fault
returns-in-Rollout-clause-outside_fault g c = λ is. inl (c.run_rollout_command.ensures.outcome.wire_fault is)

-- ---- `agent`

pub returns-in-Agent-clause-ran : goal.returns-in-Agent-clause-ran
returns-in-Agent-clause-ran g c = rw c.in-Agent.is (record {
  outcome = c.noted_agent.ensures.outcome;
  silent = c.noted_agent.ensures.silent;
  source_kept = refl;
  wire_kept = refl;
  lab_kept = refl;
})

pub noted_agent-requires : goal.noted_agent-requires
noted_agent-requires g c = record { endpoint = subst CanRun c.in-Agent.is c.requires.can_run }

pub returns-in-Agent-clause-no_wrong_words : goal.returns-in-Agent-clause-no_wrong_words
returns-in-Agent-clause-no_wrong_words g c = λ is. agent_not_2 c.noted_agent.result c.noted_agent.ensures.outcome.statuses is

pub returns-in-Agent-clause-read_fault : goal.returns-in-Agent-clause-read_fault
returns-in-Agent-clause-read_fault g c = λ is. absurd (agent_not_3 c.noted_agent.result c.noted_agent.ensures.outcome.statuses is)

pub returns-in-Agent-clause-write_fault : goal.returns-in-Agent-clause-write_fault
returns-in-Agent-clause-write_fault g c = c.noted_agent.ensures.outcome.write_fault

pub returns-in-Agent-clause-store_fault : goal.returns-in-Agent-clause-store_fault
returns-in-Agent-clause-store_fault g c = c.noted_agent.ensures.outcome.store_fault

pub returns-in-Agent-clause-outside_fault : goal.returns-in-Agent-clause-outside_fault
returns-in-Agent-clause-outside_fault g c = λ is. fault_outside _ _ _ _ _ _ (c.noted_agent.ensures.outcome.outside_fault is)

-- ---- what is noted

pub returns-in-Stream-clause-noted : goal.returns-in-Stream-clause-noted
returns-in-Stream-clause-noted g c = rw c.in-Stream.is (stream_noted (MayAnswer (λ b. (goal.Handler-dyn g b).answers b.1) c.args.handlers.now) _ _ c.noted_stream.result _ _ c.in-Stream.command c.noted_stream.ensures.noted)

pub returns-in-Simulate-clause-noted : goal.returns-in-Simulate-clause-noted
returns-in-Simulate-clause-noted g c = rw c.in-Simulate.is c.noted_simulate.ensures.noted

pub returns-in-Storm-clause-noted : goal.returns-in-Storm-clause-noted
returns-in-Storm-clause-noted g c = rw c.in-Storm.is c.noted_storm.ensures.noted

pub returns-in-Serve-clause-noted : goal.returns-in-Serve-clause-noted
returns-in-Serve-clause-noted g c = rw c.in-Serve.is c.run_serve_command.ensures.noted

pub returns-in-Rollout-clause-noted : goal.returns-in-Rollout-clause-noted
returns-in-Rollout-clause-noted g c = rw c.in-Rollout.is c.run_rollout_command.ensures.noted

pub returns-in-Agent-clause-noted : goal.returns-in-Agent-clause-noted
returns-in-Agent-clause-noted g c = rw c.in-Agent.is c.noted_agent.ensures.noted
