use Rattle.std.proofs.Common.{List, ℕ, inl, subst}
use Rattle.message_codec.specs.declared.reader.items.ReadFail.{ReadFail}
use Rattle.message_codec.specs.Read.{Refuses}
use Rattle.message_replies.specs.Replies.{ReplyFault}
use Rattle.agent_rounds.specs.Parts.{carried}
use Rattle.agent_rounds.proofs.questions.reply_to.Goals as goal

pub returns-in-Err-Refused : goal.returns-in-Err-Refused
returns-in-Err-Refused c =
    let refused = c.in-Err-Refused.field-0-0 in
    let bytes = carried c.args.to.now c.args.answer.now in
    record {
      reply = inl (
        refused.at,
        refused.why,
        subst (λ (fail : ReadFail). Refuses fail (ReplyFault bytes)) c.in-Err-Refused.field-0-is
            (subst (λ (heard : List ℕ). Refuses c.in-Err-Refused.field-0 (ReplyFault heard)) c.carried.ensures c.in-Err-Refused.ensures.refused),
      );
    }
