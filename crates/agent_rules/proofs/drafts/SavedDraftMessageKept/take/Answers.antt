use Rattle.std.proofs.Common.{refl}
use Rattle.message_attributes.proofs.PartLaws.{on_ok}
use Rattle.agent_rules.proofs.Refusals.{never_refused}
use Rattle.agent_rules.proofs.drafts.SavedDraftMessageKept.take.Goals as goal

pub returns-in-1-clause-ok : goal.returns-in-1-clause-ok
returns-in-1-clause-ok c = rw c.in-1.is (on_ok c.take_blob.result _ _ (λ k. (k, (refl, (refl, (refl, (refl, (refl, (refl, (refl, (refl, (refl, (refl, (refl, tt))))))))))))) c.take_blob.ensures.ok)

pub returns-in-1-clause-refused : goal.returns-in-1-clause-refused
returns-in-1-clause-refused c = never_refused _ c.take_blob.result c.take_blob.ensures.refused

pub returns-in-4-clause-ok : goal.returns-in-4-clause-ok
returns-in-4-clause-ok c = rw c.in-4.is (on_ok c.take_text.result _ _ (λ k. (refl, (refl, (refl, (k, (refl, (refl, (refl, (refl, (refl, (refl, (refl, (refl, tt))))))))))))) c.take_text.ensures.ok)

pub returns-in-5-clause-ok : goal.returns-in-5-clause-ok
returns-in-5-clause-ok c = rw c.in-5.is (on_ok c.take_one.result _ _ (λ k. (refl, (refl, (refl, (refl, (k, (refl, (refl, (refl, (refl, (refl, (refl, (refl, tt))))))))))))) c.take_one.ensures.ok)

pub returns-in-7-clause-ok : goal.returns-in-7-clause-ok
returns-in-7-clause-ok c = rw c.in-7.is (on_ok c.take_blob-in-7.result _ _ (λ k. (refl, (refl, (refl, (refl, (refl, (refl, (k, (refl, (refl, (refl, (refl, (refl, tt))))))))))))) c.take_blob-in-7.ensures.ok)

pub returns-in-7-clause-refused : goal.returns-in-7-clause-refused
returns-in-7-clause-refused c = never_refused _ c.take_blob-in-7.result c.take_blob-in-7.ensures.refused

pub returns-in-8-clause-ok : goal.returns-in-8-clause-ok
returns-in-8-clause-ok c = rw c.in-8.is (on_ok c.take_one-in-8.result _ _ (λ k. (refl, (refl, (refl, (refl, (refl, (refl, (refl, (k, (refl, (refl, (refl, (refl, tt))))))))))))) c.take_one-in-8.ensures.ok)

pub returns-in-9-clause-ok : goal.returns-in-9-clause-ok
returns-in-9-clause-ok c = rw c.in-9.is (on_ok c.take_one-in-9.result _ _ (λ k. (refl, (refl, (refl, (refl, (refl, (refl, (refl, (refl, (k, (refl, (refl, (refl, tt))))))))))))) c.take_one-in-9.ensures.ok)

pub returns-in-10-clause-ok : goal.returns-in-10-clause-ok
returns-in-10-clause-ok c = rw c.in-10.is (on_ok c.take_one-in-10.result _ _ (λ k. (refl, (refl, (refl, (refl, (refl, (refl, (refl, (refl, (refl, (k, (refl, (refl, tt))))))))))))) c.take_one-in-10.ensures.ok)

pub returns-in-11-clause-ok : goal.returns-in-11-clause-ok
returns-in-11-clause-ok c = rw c.in-11.is (on_ok c.take_blob-in-11.result _ _ (λ k. (refl, (refl, (refl, (refl, (refl, (refl, (refl, (refl, (refl, (refl, (k, (refl, tt))))))))))))) c.take_blob-in-11.ensures.ok)

pub returns-in-11-clause-refused : goal.returns-in-11-clause-refused
returns-in-11-clause-refused c = never_refused _ c.take_blob-in-11.result c.take_blob-in-11.ensures.refused

pub returns-in-12-clause-ok : goal.returns-in-12-clause-ok
returns-in-12-clause-ok c = rw c.in-12.is (on_ok c.take_blob-in-12.result _ _ (λ k. (refl, (refl, (refl, (refl, (refl, (refl, (refl, (refl, (refl, (refl, (refl, (k, tt))))))))))))) c.take_blob-in-12.ensures.ok)

pub returns-in-12-clause-refused : goal.returns-in-12-clause-refused
returns-in-12-clause-refused c = never_refused _ c.take_blob-in-12.result c.take_blob-in-12.ensures.refused
