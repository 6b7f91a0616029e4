use Rattle.std.proofs.Common.{refl}
use Rattle.message_attributes.proofs.PartLaws.{on_ok}
use Rattle.agent_rules.proofs.Refusals.{never_refused}
use Rattle.agent_rules.proofs.drafts.ChangeDraftMessageKept.take.Goals as goal

pub returns-in-1-clause-ok : goal.returns-in-1-clause-ok
returns-in-1-clause-ok c = rw c.in-1.is (on_ok c.take_raw.result _ _ (λ k. (k, (refl, (refl, (refl, (refl, (refl, (refl, (refl, (refl, (refl, (refl, (refl, tt))))))))))))) c.take_raw.ensures.ok)

pub returns-in-1-clause-refused : goal.returns-in-1-clause-refused
returns-in-1-clause-refused c = never_refused _ c.take_raw.result c.take_raw.ensures.refused

pub returns-in-2-clause-ok : goal.returns-in-2-clause-ok
returns-in-2-clause-ok c = rw c.in-2.is (on_ok c.take_raw-in-2.result _ _ (λ k. (refl, (k, (refl, (refl, (refl, (refl, (refl, (refl, (refl, (refl, (refl, (refl, tt))))))))))))) c.take_raw-in-2.ensures.ok)

pub returns-in-2-clause-refused : goal.returns-in-2-clause-refused
returns-in-2-clause-refused c = never_refused _ c.take_raw-in-2.result c.take_raw-in-2.ensures.refused

pub returns-in-3-clause-ok : goal.returns-in-3-clause-ok
returns-in-3-clause-ok c = rw c.in-3.is (on_ok c.take_raw-in-3.result _ _ (λ k. (refl, (refl, (k, (refl, (refl, (refl, (refl, (refl, (refl, (refl, (refl, (refl, tt))))))))))))) c.take_raw-in-3.ensures.ok)

pub returns-in-3-clause-refused : goal.returns-in-3-clause-refused
returns-in-3-clause-refused c = never_refused _ c.take_raw-in-3.result c.take_raw-in-3.ensures.refused

pub returns-in-4-clause-ok : goal.returns-in-4-clause-ok
returns-in-4-clause-ok c = rw c.in-4.is (on_ok c.take_raw-in-4.result _ _ (λ k. (refl, (refl, (refl, (k, (refl, (refl, (refl, (refl, (refl, (refl, (refl, (refl, tt))))))))))))) c.take_raw-in-4.ensures.ok)

pub returns-in-4-clause-refused : goal.returns-in-4-clause-refused
returns-in-4-clause-refused c = never_refused _ c.take_raw-in-4.result c.take_raw-in-4.ensures.refused

pub returns-in-5-clause-ok : goal.returns-in-5-clause-ok
returns-in-5-clause-ok c = rw c.in-5.is (on_ok c.take_raw-in-5.result _ _ (λ k. (refl, (refl, (refl, (refl, (k, (refl, (refl, (refl, (refl, (refl, (refl, (refl, tt))))))))))))) c.take_raw-in-5.ensures.ok)

pub returns-in-5-clause-refused : goal.returns-in-5-clause-refused
returns-in-5-clause-refused c = never_refused _ c.take_raw-in-5.result c.take_raw-in-5.ensures.refused

pub returns-in-6-clause-ok : goal.returns-in-6-clause-ok
returns-in-6-clause-ok c = rw c.in-6.is (on_ok c.take_raw-in-6.result _ _ (λ k. (refl, (refl, (refl, (refl, (refl, (k, (refl, (refl, (refl, (refl, (refl, (refl, tt))))))))))))) c.take_raw-in-6.ensures.ok)

pub returns-in-6-clause-refused : goal.returns-in-6-clause-refused
returns-in-6-clause-refused c = never_refused _ c.take_raw-in-6.result c.take_raw-in-6.ensures.refused

pub returns-in-7-clause-ok : goal.returns-in-7-clause-ok
returns-in-7-clause-ok c = rw c.in-7.is (on_ok c.take_raw-in-7.result _ _ (λ k. (refl, (refl, (refl, (refl, (refl, (refl, (k, (refl, (refl, (refl, (refl, (refl, tt))))))))))))) c.take_raw-in-7.ensures.ok)

pub returns-in-7-clause-refused : goal.returns-in-7-clause-refused
returns-in-7-clause-refused c = never_refused _ c.take_raw-in-7.result c.take_raw-in-7.ensures.refused

pub returns-in-8-clause-ok : goal.returns-in-8-clause-ok
returns-in-8-clause-ok c = rw c.in-8.is (on_ok c.take_raw-in-8.result _ _ (λ k. (refl, (refl, (refl, (refl, (refl, (refl, (refl, (k, (refl, (refl, (refl, (refl, tt))))))))))))) c.take_raw-in-8.ensures.ok)

pub returns-in-8-clause-refused : goal.returns-in-8-clause-refused
returns-in-8-clause-refused c = never_refused _ c.take_raw-in-8.result c.take_raw-in-8.ensures.refused

pub returns-in-9-clause-ok : goal.returns-in-9-clause-ok
returns-in-9-clause-ok c = rw c.in-9.is (on_ok c.take_raw-in-9.result _ _ (λ k. (refl, (refl, (refl, (refl, (refl, (refl, (refl, (refl, (k, (refl, (refl, (refl, tt))))))))))))) c.take_raw-in-9.ensures.ok)

pub returns-in-9-clause-refused : goal.returns-in-9-clause-refused
returns-in-9-clause-refused c = never_refused _ c.take_raw-in-9.result c.take_raw-in-9.ensures.refused

pub returns-in-10-clause-ok : goal.returns-in-10-clause-ok
returns-in-10-clause-ok c = rw c.in-10.is (on_ok c.take_raw-in-10.result _ _ (λ k. (refl, (refl, (refl, (refl, (refl, (refl, (refl, (refl, (refl, (k, (refl, (refl, tt))))))))))))) c.take_raw-in-10.ensures.ok)

pub returns-in-10-clause-refused : goal.returns-in-10-clause-refused
returns-in-10-clause-refused c = never_refused _ c.take_raw-in-10.result c.take_raw-in-10.ensures.refused

pub returns-in-11-clause-ok : goal.returns-in-11-clause-ok
returns-in-11-clause-ok c = rw c.in-11.is (on_ok c.take_raw-in-11.result _ _ (λ k. (refl, (refl, (refl, (refl, (refl, (refl, (refl, (refl, (refl, (refl, (k, (refl, tt))))))))))))) c.take_raw-in-11.ensures.ok)

pub returns-in-11-clause-refused : goal.returns-in-11-clause-refused
returns-in-11-clause-refused c = never_refused _ c.take_raw-in-11.result c.take_raw-in-11.ensures.refused

pub returns-in-12-clause-ok : goal.returns-in-12-clause-ok
returns-in-12-clause-ok c = rw c.in-12.is (on_ok c.take_raw-in-12.result _ _ (λ k. (refl, (refl, (refl, (refl, (refl, (refl, (refl, (refl, (refl, (refl, (refl, (k, tt))))))))))))) c.take_raw-in-12.ensures.ok)

pub returns-in-12-clause-refused : goal.returns-in-12-clause-refused
returns-in-12-clause-refused c = never_refused _ c.take_raw-in-12.result c.take_raw-in-12.ensures.refused
