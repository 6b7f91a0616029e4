use Rattle.std.proofs.Common.{refl, ◌∙◌, rules}
use Rattle.agent_state.proofs.ReplyLemmas.{asks_next, in_use_is, lesson_is}
use Rattle.agent_state.proofs.agent.Agent.heeded.Goals as goal

pub returns-clause-lesson : goal.returns-clause-lesson
returns-clause-lesson c = c.wins.ensures.same ∙ c.in_ok-lesson.ensures.lesson ∙ lesson_is c.args.self.now.half c.args.reply.now c.args.answered c.requires.heard

pub returns-clause-next : goal.returns-clause-next
returns-clause-next c =
    c.in_ok-next.ensures.next (record (c.args.self.now.half) { saved = c.in_use.result.now; proved = c.if-answered.proved }) refl
    ∙ asks_next c.args.self.now.half c.args.reply.now c.args.answered _ _ c.requires.heard
    (in_use_is c.args.self.now.half c.args.reply.now c.args.answered c.wins.new.lesson c.in_use.result.now (c.wins.ensures.same ∙ c.in_ok-lesson.ensures.lesson) c.in_use.ensures.in_use) (search rules)
