use Rattle.std.proofs.Common.{sym, ◌∙◌, subst}
use Rattle.std.proofs.lemmas.Result.{IfOk-weaker}
use Rattle.message_codec.specs.declared.reader.items.ReadFail.{ReadFail}
use Rattle.message_codec.specs.Read.{Refuses}
use Rattle.message_replies.specs.Replies.{MeansReply, ReplyFault}
use Rattle.server_kept.specs.Files.{Holds, kept_reply}
use Rattle.server_kept.proofs.KeepLemmas.{none_weaker, taken}
use Rattle.server_kept.proofs.bodies.offers_in.Goals as goal

pub returns-in-Err-Refused-clause-none : goal.returns-in-Err-Refused-clause-none
returns-in-Err-Refused-clause-none c = λ offers holds.
    let bytes = c.as_slice.result.now in
    let fault : ReplyFault bytes c.in-Err-Refused.field-0-0.at c.in-Err-Refused.field-0-0.why =
    subst (λ (e : ReadFail). Refuses e (ReplyFault bytes)) c.in-Err-Refused.field-0-is c.in-Err-Refused.ensures.refused in
    c.reply_fault.ensures.not_both bytes (kept_reply c.args.uid.now offers) _ _ (subst (λ b. MeansReply b (kept_reply c.args.uid.now offers)) (sym c.as_slice.ensures.value) holds.means) fault

pub returns-clause-none : goal.returns-clause-none
returns-clause-none c =
    IfOk-weaker c.settled.result _ _ (λ found no. none_weaker found (Holds c.args.uid.now c.offers_of-offers.result c.args.body.now → ⊥) _ (λ wrong offers holds.
    wrong (subst (λ o. Holds c.args.uid.now o c.args.body.now)
    (sym (c.offers_of-offers.ensures ∙ taken c.in-Ok.message c.args.uid.now offers
    (c.one_reply.ensures.one c.args.body.now _ _ (subst (λ b. MeansReply b c.in-Ok.message) c.as_slice.ensures.value c.in-Ok.ensures.means) holds.means)))
    holds)) no) c.settled.ensures.none
