use Rattle.std.proofs.Common.{ap, refl, ◌∙◌}
use Rattle.server_core.specs.declared.replies.Profile.{Profile}
use Rattle.server_sessions.proofs.Plainly.{answered_by, half_by}
use Rattle.server_sessions.specs.Reports.{silent}
use Rattle.server_sessions.proofs.answers.answering.answer_report.Goals as goal

pub returns-in-Some-clause-answers : goal.returns-in-Some-clause-answers
returns-in-Some-clause-answers g c =
    answered_by _ _ _ _ _ _ c.in-Some.ensures.plain c.args.envelope c.args.conn c.capabilities-capabilities.result c.args.handled.now c.finish_plainly.new.handled c.finish_plainly.result
    (c.capabilities-capabilities.ensures.capabilities ∙ ap (λ (p : Profile). p.capabilities) c.in-Some.ensures.profile) c.finish_plainly.ensures.answer c.finish_plainly.ensures.handled

pub returns-in-Some-clause-half : goal.returns-in-Some-clause-half
returns-in-Some-clause-half g c = half_by (silent c.args.server.now.profile) _ _ _ _ _ c.in-Some.ensures.plain c.finish_plainly.result

pub returns-in-None-clause-answers : goal.returns-in-None-clause-answers
returns-in-None-clause-answers g c = rw (c.in-None.ensures.none refl, c.in-None.ensures.left refl) at c.answer_wholly.ensures.answers

pub returns-in-None-clause-half : goal.returns-in-None-clause-half
returns-in-None-clause-half g c = rw (c.in-None.ensures.none refl, c.in-None.ensures.left refl) at c.answer_wholly.ensures.half
