use Rattle.agent_rules.proofs.Leading.{leads}
use Rattle.agent_rules.proofs.laws.change_leads.Goals as goal

pub returns : goal.returns
returns c = record { leads = leads }
