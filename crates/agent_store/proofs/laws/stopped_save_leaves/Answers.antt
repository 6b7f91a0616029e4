use Rattle.agent_store.proofs.Returning.{stop-is, left-is, left-reads, left-generation}
use Rattle.agent_store.proofs.laws.stopped_save_leaves.Goals as goal

pub returns-clause-stop : goal.returns-clause-stop
returns-clause-stop c = stop-is

pub returns-clause-image : goal.returns-clause-image
returns-clause-image c = left-is

pub returns-clause-reads : goal.returns-clause-reads
returns-clause-reads c = left-reads

pub returns-clause-generation : goal.returns-clause-generation
returns-clause-generation c = left-generation
