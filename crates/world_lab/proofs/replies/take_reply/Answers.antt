use Rattle.std.proofs.Common.{◌∙◌, sym}
use Rattle.agent_rules.specs.Keeping.{TakeReply}
use Rattle.world_lab.proofs.ScriptAgents.{reply_keepable}
use Rattle.world_lab.proofs.Hosts.{goes_refused, no_others, not_spent, stays_refused, stops_played}
use Rattle.world_lab.proofs.Heard.{is_taken, not_taken}
use Rattle.world_lab.proofs.replies.take_reply.Goals as goal

pub returns-in-Ok-clause-goes : goal.returns-in-Ok-clause-goes
returns-in-Ok-clause-goes c =
    is_taken c.args.host.now c.on_reply.new.agent c.on_reply.new.disk c.args.reply.now c.in-Ok.next c.requires.hosted c.requires.reply c.in-Ok.ensures.room c.in-Ok.ensures.told c.in-Ok.ensures.played

pub returns-in-Ok-clause-taken : goal.returns-in-Ok-clause-taken
returns-in-Ok-clause-taken c = (c.in-Ok.ensures.room, c.in-Ok.ensures.next)

pub returns-in-Err-TooLarge-clause-goes : goal.returns-in-Err-TooLarge-clause-goes
returns-in-Err-TooLarge-clause-goes c =
    goes_refused c.args.host.now _ (TakeReply c.args.reply.now)
    (not_taken c.args.host.now c.args.reply.now c.requires.hosted (rw c.in-Err-TooLarge.field-0-is at c.in-Err-TooLarge.ensures.refused))
    (stays_refused c.args.host.now c.on_reply.new.agent c.on_reply.new.disk (TakeReply c.args.reply.now) _ (λ e. cc e, λ e. cc e) c.requires.hosted
    (rw c.in-Err-TooLarge.field-0-is at c.in-Err-TooLarge.ensures.played))

pub returns-in-Err-TooLarge-clause-taken : goal.returns-in-Err-TooLarge-clause-taken
returns-in-Err-TooLarge-clause-taken c = not_taken c.args.host.now c.args.reply.now c.requires.hosted (rw c.in-Err-TooLarge.field-0-is at c.in-Err-TooLarge.ensures.refused)

pub returns-in-Err-StoreFault-clause-stopped : goal.returns-in-Err-StoreFault-clause-stopped
returns-in-Err-StoreFault-clause-stopped c = λ is.
    stops_played c.args.host.now c.on_reply.new.agent c.on_reply.new.disk (TakeReply c.args.reply.now) c.requires.hosted.seated
    (reply_keepable c.args.host.now.agent.half c.args.reply.now c.requires.hosted.seated.agent c.requires.reply) (no_others c.args.host.now _ c.requires.hosted.files)
    (rw c.in-Err-StoreFault.field-0-is at c.in-Err-StoreFault.ensures.played)

pub unreachable-requires : goal.unreachable-requires
unreachable-requires c = let refused = rw c.in-Err-NumbersSpent.field-0-is at c.in-Err-NumbersSpent.ensures.refused in not_spent c.args.host.now.agent (TakeReply c.args.reply.now) c.requires.generations refused.1

pub unreachable-requires-in-Err-WrongUid : goal.unreachable-requires-in-Err-WrongUid
unreachable-requires-in-Err-WrongUid c = let wrong = rw c.in-Err-WrongUid.field-0-is at c.in-Err-WrongUid.ensures.refused in wrong (c.requires.reply.uid ∙ sym c.requires.hosted.seated.agent.uid)
