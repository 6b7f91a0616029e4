use Rattle.agent_rules.specs.Laws.{written_fields}
use Rattle.agent_rules.proofs.Found.{reads_back}
use Rattle.agent_rules.proofs.laws.saved_reads_back.Goals as goal

pub returns-clause-same : goal.returns-clause-same
returns-clause-same c s typed right few = record { fields = written_fields s typed few; uid = typed.uid; right = right }

pub returns-clause-seen : goal.returns-clause-seen
returns-clause-seen c = reads_back
