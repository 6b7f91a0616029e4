use Rattle.std.proofs.Common.{◌++◌, ap, ◌∙◌}
use Rattle.message_codec.specs.Row.{Row}
use Rattle.message_replies.specs.Canonical.{canonical_reply}
use Rattle.server_core.specs.Replies.{bare_reply}
use Rattle.server_sessions.proofs.answers.plain.bytes_behind.Goals as goal

pub returns : goal.returns
returns c =
    let reply = canonical_reply (bare_reply c.args.uid.now c.args.capabilities) in
    record { bytes = c.of.ensures.value ∙ c.into_vec.ensures.bytes ∙ c.in_ok-put_behind.ensures.put ∙ ap (λ (row : Row). row.bytes ++ (c.args.front.now ++ reply)) c.new-out.ensures.empty }
