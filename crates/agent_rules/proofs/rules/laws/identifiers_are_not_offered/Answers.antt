use Rattle.agent_rules.proofs.HeaderLemmas.{own_refused}
use Rattle.agent_rules.proofs.rules.laws.identifiers_are_not_offered.Goals as goal

pub returns : goal.returns
returns c = record { refused = own_refused }
