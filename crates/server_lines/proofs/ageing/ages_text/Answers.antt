use Rattle.std.specs.String.{string_bytes}
use Rattle.server_lines.specs.Answers.{line_of_age}
use Rattle.server_lines.specs.Sights.{numbers_in, sight_of}
use Rattle.server_lines.proofs.ListLemmas.{each_more}
use Rattle.server_lines.proofs.ageing.ages_text.Goals as goal

pub loop-agent-preserved : goal.loop-agent-preserved
loop-agent-preserved g c =
    each_more (line_of_age (sight_of c.args.seen.now (numbers_in c.args.known.now.entries))) (string_bytes c.loop-agent.text) (string_bytes c.put_age.new.text)
    c.loop-agent.agent-index c.agent-item.result c.args.agents.now c.loop-agent-test.true c.agent-item.is c.in_ok-put_age.ensures.ok c.loop-agent.invariant
