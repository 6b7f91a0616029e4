use Rattle.std.proofs.Common.{sym, ◌∙◌}
use Rattle.agent_rules.specs.Keeping.{TakeReply}
use Rattle.agent_state.proofs.ReplyLemmas.{lesson_right}
use Rattle.agent_state.proofs.SaveLemmas.{keeps_call, keeps_nothing}
use Rattle.agent_state.proofs.agent.Agent.learn.Goals as goal

pub keep_changed-requires : goal.keep_changed-requires
keep_changed-requires g c =
    let right = lesson_right c.args.self.now.half c.args.reply.now _ (sym c.requires.lesson ∙ c.in-Some.is) in
    record { fits = c.requires.fits; right = right.0; reserved = right.1 }

pub returns-in-Some : goal.returns-in-Some
returns-in-Some g c =
    let k = keeps_call _ _ _ _ c.args.self.now c.keep_changed.new.self c.requires.fits _ (TakeReply c.args.reply.now) c.keep_changed.result (sym c.requires.lesson ∙ c.in-Some.is) c.keep_changed.ensures.keeps in
    record { kept = k.kept; room = k.room; one_save = k.one_save; refused = k.refused }

pub returns-in-None : goal.returns-in-None
returns-in-None g c =
    let k = keeps_nothing _ (g.D.Disk.state c.args.disk.now) _ (g.D.Disk.countdown c.args.disk.now) c.args.self.now c.args.self.now c.requires.fits (TakeReply c.args.reply.now) c.requires.one_room (sym c.requires.lesson ∙ c.in-None.is) in
    record { kept = k.kept; room = k.room; one_save = k.one_save; refused = k.refused }
