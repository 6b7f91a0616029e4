use Rattle.edge_http.proofs.GrowLaws.{under-way}
use Rattle.edge_http.proofs.StreamLaws.{one-reading, reads-on, one-fault}
use Rattle.edge_http.proofs.StayLaws.{fault-stays}
use Rattle.edge_http.proofs.laws.one_reading.Goals as goal

pub returns-clause-same : goal.returns-clause-same
returns-clause-same c = one-reading

pub returns-clause-begins : goal.returns-clause-begins
returns-clause-begins c = reads-on

pub returns-clause-stays : goal.returns-clause-stays
returns-clause-stays c = fault-stays

pub returns-clause-one_fault : goal.returns-clause-one_fault
returns-clause-one_fault c = one-fault

pub returns-clause-under_way : goal.returns-clause-under_way
returns-clause-under_way c = under-way
