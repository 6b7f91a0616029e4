use Rattle.agent_rounds.proofs.KeptLemmas.{configured_keeps, plainly}
use Rattle.agent_rounds.proofs.NameLemmas.{name_tells}
use Rattle.agent_rounds.proofs.ProvingLemmas.{says_one}
use Rattle.agent_rounds.proofs.laws.collector_proves.Goals as goal

pub returns-clause-kept : goal.returns-clause-kept
returns-clause-kept c = configured_keeps

pub returns-clause-one_word : goal.returns-clause-one_word
returns-clause-one_word c = says_one

pub returns-clause-one_name : goal.returns-clause-one_name
returns-clause-one_name c = name_tells

pub returns-clause-plain : goal.returns-clause-plain
returns-clause-plain c = plainly
