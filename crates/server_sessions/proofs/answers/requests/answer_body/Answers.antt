use Rattle.std.proofs.Common.{refl, inl, inr}
use Rattle.std.proofs.lemmas.Result.{IfOk-weaker, on_err_weaker}
use Rattle.server_sessions.proofs.answers.requests.answer_body.Goals as goal

pub returns-in-Ok-Some-clause-answers : goal.returns-in-Ok-Some-clause-answers
returns-in-Ok-Some-clause-answers g c =
    let read = rw c.in-Ok-Some.field-0-is at c.in-Ok-Some.ensures.read in
    IfOk-weaker c.answer_report-answer.result _ _ (λ answer responds bytes came. inr (c.in-Ok-Some.report, read bytes came, responds)) c.answer_report-answer.ensures.answers

pub returns-in-Ok-Some-clause-half : goal.returns-in-Ok-Some-clause-half
returns-in-Ok-Some-clause-half g c =
    let read = rw c.in-Ok-Some.field-0-is at c.in-Ok-Some.ensures.read in
    on_err_weaker c.answer_report-answer.result (λ half bytes came. inr (c.in-Ok-Some.report, read bytes came, half)) c.answer_report-answer.ensures.half

pub returns-in-Ok-None-clause-answers : goal.returns-in-Ok-None-clause-answers
returns-in-Ok-None-clause-answers g c =
    let read = rw c.in-Ok-None.field-0-is at c.in-Ok-None.ensures.read in
    IfOk-weaker c.response_bytes.result _ _ (λ answer is bytes came. inl (read bytes came, refl, refl, is)) c.response_bytes.ensures.written
