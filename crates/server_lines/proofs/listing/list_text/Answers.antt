use Rattle.std.specs.String.{string_bytes}
use Rattle.server_lines.proofs.ListLemmas.{line_more}
use Rattle.server_lines.proofs.listing.list_text.Goals as goal

pub loop-agent-preserved : goal.loop-agent-preserved
loop-agent-preserved c =
    line_more (string_bytes c.loop-agent.text) (string_bytes c.put_line.new.text) c.loop-agent.agent-index c.agent-item.result c.args.agents.now c.loop-agent-test.true c.agent-item.is c.in_ok-put_line.ensures.ok c.loop-agent.invariant
