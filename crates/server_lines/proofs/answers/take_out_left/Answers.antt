use Rattle.std.proofs.Common.{◌∙◌}
use Rattle.server_lines.proofs.RollLemmas.{left_more}
use Rattle.server_lines.proofs.answers.take_out_left.Goals as goal

pub loop-agent-preserved : goal.loop-agent-preserved
loop-agent-preserved c =
    left_more c.loop-agent.rollouts c.take_out_where_left.new.rollouts c.loop-agent.agent-index c.agent-item.result c.args.agents.now c.loop-agent-test.true c.agent-item.is c.take_out_where_left.ensures.left
    ∙ c.loop-agent.invariant
