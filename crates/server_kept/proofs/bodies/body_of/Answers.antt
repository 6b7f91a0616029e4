use Rattle.std.proofs.Common.{ℕ, List, ◌∙◌, ap, subst, IfOk}
use Rattle.message_values.specs.declared.reply.ServerToAgent.{ServerToAgent}
use Rattle.message_replies.specs.Replies.{MeansReply}
use Rattle.server_core.specs.declared.offers.Offers as of
use Rattle.server_kept.specs.Files.{kept_reply}
use Rattle.server_kept.proofs.bodies.body_of.Goals as goal

pub returns-clause-means : goal.returns-clause-means
returns-clause-means c =
    subst (λ (m : ServerToAgent). IfOk c.encode_reply.result (λ body. MeansReply body m))
    (c.message_of-message.ensures
    ∙ ap (λ (u : List ℕ). kept_reply u c.in_ok-offers.offers) (c.in_ok-id.ensures.value ∙ c.as_slice.ensures.value)
    ∙ ap (λ (o : of.Offers). kept_reply c.args.uid.now o) c.in_ok-offers.ensures.copied)
    c.encode_reply.ensures.read_again
