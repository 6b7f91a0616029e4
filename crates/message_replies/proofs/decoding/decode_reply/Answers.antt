use Rattle.std.proofs.Common.{subst, sym}
use Rattle.message_codec.specs.Tables as tables
use Rattle.message_codec.specs.Values.{Values}
use Rattle.message_codec.specs.Means.{Means}
use Rattle.message_replies.proofs.decoding.decode_reply.Goals as goal

pub returns-clause-means : goal.returns-clause-means
returns-clause-means c =
    let means = c.in_ok-draft.ensures.means in
    (means.0, subst (λ (vs : Values). Means 100 tables.ServerToAgent c.args.bytes.now vs) (sym c.in_ok-settle.ensures.columns) means.1)
