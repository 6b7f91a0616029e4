use Rattle.agent_rules.proofs.Steps.{change_counts}
use Rattle.agent_rules.proofs.changing.change_len.Goals as goal

pub returns : goal.returns
returns c = record { counts = change_counts c.count_from.result c.args.former.now c.args.next.now c.count_from.ensures.counts }
