use Rattle.server_core.proofs.OtherLemmas.{forgotten_known, forgotten_others, forgotten_waiting}
use Rattle.server_core.proofs.laws.forgotten_agents_are_new.Goals as goal

pub returns-clause-known : goal.returns-clause-known
returns-clause-known c = forgotten_known

pub returns-clause-waiting : goal.returns-clause-waiting
returns-clause-waiting c = forgotten_waiting

pub returns-clause-others : goal.returns-clause-others
returns-clause-others c = forgotten_others
