use Rattle.std.proofs.Common.{◌≡◌, take}
use Rattle.server_waves.specs.Register.{with_agents}
use Rattle.server_waves.proofs.rollouts.Rollout.join_each.Given as goal

-- those so far joined
abbrev pub invariant-loop-agent : goal.invariant-loop-agent
invariant-loop-agent l = l.self ≡ with_agents (take l.agent-index l.agents) l.fn.self
