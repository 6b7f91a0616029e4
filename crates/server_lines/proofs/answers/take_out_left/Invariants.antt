use Rattle.std.proofs.Common.{◌≡◌}
use Rattle.server_lines.proofs.RollLemmas.{left_from}
use Rattle.server_lines.proofs.answers.take_out_left.Given as goal

abbrev pub invariant-loop-agent : goal.invariant-loop-agent
invariant-loop-agent l = left_from l.rollouts l.agent-index l.agents ≡ left_from l.initial.rollouts 0 l.agents
