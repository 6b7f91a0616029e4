use Rattle.agent_rules.proofs.Leading.{leads}
use Rattle.agent_rules.proofs.Steps.{on_ok}
use Rattle.agent_rules.proofs.payload.SavedPayload.put_change.Goals as goal

pub returns-clause-leads : goal.returns-clause-leads
returns-clause-leads c = on_ok c.put_change.result _ (leads c.args.former.now c.args.next.now c.requires.former c.requires.next c.requires.few c.requires.next_few c.requires.change_few)
