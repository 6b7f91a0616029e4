use Rattle.agent_store.specs.declared.fail.StoreFail.TheVariants.{Damaged, DiskFault, Spent, TooBig}
use Rattle.agent_store.proofs.Results.{err-as}
use Rattle.agent_store.proofs.store.Store.load.Goals as goal

pub returns-in-Err-open-clause-damaged : goal.returns-in-Err-open-clause-damaged
returns-in-Err-open-clause-damaged g c = λ slot is. c.in-Err-open.ensures.opens.damaged slot (err-as c.in-Err-open.fail (Damaged slot) is)

pub returns-in-Err-open-clause-made_part : goal.returns-in-Err-open-clause-made_part
returns-in-Err-open-clause-made_part g c = λ is. c.in-Err-open.ensures.opens.made_part (err-as c.in-Err-open.fail DiskFault is)

pub returns-in-Err-open-clause-fault : goal.returns-in-Err-open-clause-fault
returns-in-Err-open-clause-fault g c = λ is. c.in-Err-open.ensures.opens.fault (err-as c.in-Err-open.fail DiskFault is)

pub returns-in-Err-open-clause-not_too_big : goal.returns-in-Err-open-clause-not_too_big
returns-in-Err-open-clause-not_too_big g c = λ is. c.in-Err-open.ensures.opens.fitting (err-as c.in-Err-open.fail TooBig is)

pub returns-in-Err-open-clause-not_spent : goal.returns-in-Err-open-clause-not_spent
returns-in-Err-open-clause-not_spent g c = λ is. c.in-Err-open.ensures.opens.unspent (err-as c.in-Err-open.fail Spent is)
