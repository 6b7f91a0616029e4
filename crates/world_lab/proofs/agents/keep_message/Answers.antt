use Rattle.std.proofs.Common.{◌≡◌, ◌+◌, length, rules}
use Rattle.world_lab.proofs.agents.keep_message.Goals as goal

pub returns : goal.returns
returns c =
    let count : c.len.result ≡ length c.args.sent.now.items + 1 = search rules in
    record { kept = (c.in_ok-message.message, c.in_ok-message.ensures.means, c.in_ok-push.ensures.items, count) }
