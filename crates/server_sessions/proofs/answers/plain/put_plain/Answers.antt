use Rattle.std.proofs.Common.{ℕ, List, ap, ◌∙◌}
use Rattle.message_codec.specs.Row.{appended}
use Rattle.message_codec.specs.Canonical.{part_spelling}
use Rattle.server_sessions.proofs.Written.{both_put}
use Rattle.server_sessions.proofs.answers.plain.put_plain.Goals as goal

pub returns : goal.returns
returns c =
    let named = c.in_ok-put_content.ensures.puts.ok ∙ ap (λ (u : List ℕ). appended c.args.out.now (part_spelling 1 u)) c.as_slice.ensures.value in
    record { put = both_put c.args.out.now c.put_content.new.out c.put_unsigned.new.out c.args.uid.now c.args.capabilities c.put_unsigned.result c.as_slice.ensures.len named c.put_unsigned.ensures.puts }
