use Rattle.agent_rules.specs.Spelled.{change}
use Rattle.agent_rules.proofs.Steps.{capped_length}
use Rattle.agent_rules.proofs.payload.SavedPayload.change_len.Goals as goal

pub returns : goal.returns
returns c = record { len = capped_length c.change_len.result (change c.args.former.now c.args.next.now) c.change_len.ensures.counts }
