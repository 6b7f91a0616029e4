use Rattle.std.proofs.Common.{refl}
use Rattle.message_attributes.proofs.PartLaws.{on_ok}
use Rattle.message_reports.proofs.report.AgentToServerDraftMessageAgent.take.Goals as goal

pub returns-in-1-clause-ok : goal.returns-in-1-clause-ok
returns-in-1-clause-ok c = rw c.in-1.is (on_ok c.take_blob.result _ _ (λ k. (k, (refl, (refl, (refl, (refl, (refl, (refl, (refl, (refl, (refl, (refl, (refl, (refl, tt)))))))))))))) c.take_blob.ensures.ok)

pub returns-in-2-clause-ok : goal.returns-in-2-clause-ok
returns-in-2-clause-ok c = rw c.in-2.is (refl, (c.take_unsigned.ensures.takes, (refl, (refl, (refl, (refl, (refl, (refl, (refl, (refl, (refl, (refl, (refl, tt)))))))))))))

pub returns-in-3-clause-ok : goal.returns-in-3-clause-ok
returns-in-3-clause-ok c = rw c.in-3.is (on_ok c.take_one.result _ _ (λ k. (refl, (refl, (k, (refl, (refl, (refl, (refl, (refl, (refl, (refl, (refl, (refl, (refl, tt)))))))))))))) c.take_one.ensures.ok)

pub returns-in-3-clause-refused : goal.returns-in-3-clause-refused
returns-in-3-clause-refused c = rw c.in-3.is c.take_one.ensures.refused

pub returns-in-4-clause-ok : goal.returns-in-4-clause-ok
returns-in-4-clause-ok c = rw c.in-4.is (refl, (refl, (refl, (c.take_unsigned-in-4.ensures.takes, (refl, (refl, (refl, (refl, (refl, (refl, (refl, (refl, (refl, tt)))))))))))))

pub returns-in-5-clause-ok : goal.returns-in-5-clause-ok
returns-in-5-clause-ok c = rw c.in-5.is (on_ok c.take_one-in-5.result _ _ (λ k. (refl, (refl, (refl, (refl, (k, (refl, (refl, (refl, (refl, (refl, (refl, (refl, (refl, tt)))))))))))))) c.take_one-in-5.ensures.ok)

pub returns-in-5-clause-refused : goal.returns-in-5-clause-refused
returns-in-5-clause-refused c = rw c.in-5.is c.take_one-in-5.ensures.refused

pub returns-in-6-clause-ok : goal.returns-in-6-clause-ok
returns-in-6-clause-ok c = rw c.in-6.is (on_ok c.take_one-in-6.result _ _ (λ k. (refl, (refl, (refl, (refl, (refl, (k, (refl, (refl, (refl, (refl, (refl, (refl, (refl, tt)))))))))))))) c.take_one-in-6.ensures.ok)

pub returns-in-6-clause-refused : goal.returns-in-6-clause-refused
returns-in-6-clause-refused c = rw c.in-6.is c.take_one-in-6.ensures.refused

pub returns-in-7-clause-ok : goal.returns-in-7-clause-ok
returns-in-7-clause-ok c = rw c.in-7.is (on_ok c.take_one-in-7.result _ _ (λ k. (refl, (refl, (refl, (refl, (refl, (refl, (k, (refl, (refl, (refl, (refl, (refl, (refl, tt)))))))))))))) c.take_one-in-7.ensures.ok)

pub returns-in-7-clause-refused : goal.returns-in-7-clause-refused
returns-in-7-clause-refused c = rw c.in-7.is c.take_one-in-7.ensures.refused

pub returns-in-8-clause-ok : goal.returns-in-8-clause-ok
returns-in-8-clause-ok c = rw c.in-8.is (on_ok c.take_one-in-8.result _ _ (λ k. (refl, (refl, (refl, (refl, (refl, (refl, (refl, (k, (refl, (refl, (refl, (refl, (refl, tt)))))))))))))) c.take_one-in-8.ensures.ok)

pub returns-in-8-clause-refused : goal.returns-in-8-clause-refused
returns-in-8-clause-refused c = rw c.in-8.is c.take_one-in-8.ensures.refused

pub returns-in-9-clause-ok : goal.returns-in-9-clause-ok
returns-in-9-clause-ok c = rw c.in-9.is (on_ok c.take_one-in-9.result _ _ (λ k. (refl, (refl, (refl, (refl, (refl, (refl, (refl, (refl, (k, (refl, (refl, (refl, (refl, tt)))))))))))))) c.take_one-in-9.ensures.ok)

pub returns-in-9-clause-refused : goal.returns-in-9-clause-refused
returns-in-9-clause-refused c = rw c.in-9.is c.take_one-in-9.ensures.refused

pub returns-in-10-clause-ok : goal.returns-in-10-clause-ok
returns-in-10-clause-ok c = rw c.in-10.is (refl, (refl, (refl, (refl, (refl, (refl, (refl, (refl, (refl, (c.take_unsigned-in-10.ensures.takes, (refl, (refl, (refl, tt)))))))))))))

pub returns-in-12-clause-ok : goal.returns-in-12-clause-ok
returns-in-12-clause-ok c = rw c.in-12.is (on_ok c.take_one-in-12.result _ _ (λ k. (refl, (refl, (refl, (refl, (refl, (refl, (refl, (refl, (refl, (refl, (k, (refl, (refl, tt)))))))))))))) c.take_one-in-12.ensures.ok)

pub returns-in-12-clause-refused : goal.returns-in-12-clause-refused
returns-in-12-clause-refused c = rw c.in-12.is c.take_one-in-12.ensures.refused

pub returns-in-13-clause-ok : goal.returns-in-13-clause-ok
returns-in-13-clause-ok c = rw c.in-13.is (on_ok c.take_one-in-13.result _ _ (λ k. (refl, (refl, (refl, (refl, (refl, (refl, (refl, (refl, (refl, (refl, (refl, (k, (refl, tt)))))))))))))) c.take_one-in-13.ensures.ok)

pub returns-in-13-clause-refused : goal.returns-in-13-clause-refused
returns-in-13-clause-refused c = rw c.in-13.is c.take_one-in-13.ensures.refused

pub returns-in-14-clause-ok : goal.returns-in-14-clause-ok
returns-in-14-clause-ok c = rw c.in-14.is (on_ok c.take_one-in-14.result _ _ (λ k. (refl, (refl, (refl, (refl, (refl, (refl, (refl, (refl, (refl, (refl, (refl, (refl, (k, tt)))))))))))))) c.take_one-in-14.ensures.ok)

pub returns-in-14-clause-refused : goal.returns-in-14-clause-refused
returns-in-14-clause-refused c = rw c.in-14.is c.take_one-in-14.ensures.refused
