use Rattle.agent_offers.proofs.states.Trying.commit.Goals as goal

pub returns-in-Err-Fault-clause-not_kept : goal.returns-in-Err-Fault-clause-not_kept
returns-in-Err-Fault-clause-not_kept g c = tt

pub returns-in-Err-NoMemory-clause-kept : goal.returns-in-Err-NoMemory-clause-kept
returns-in-Err-NoMemory-clause-kept g c = tt
