use Rattle.message_replies.proofs.Again.{never_refused, same_reply}
use Rattle.message_replies.proofs.laws.read_back.Goals as goal

pub returns-in-Ok-clause-same : goal.returns-in-Ok-clause-same
returns-in-Ok-clause-same c = same_reply c.as_slice.result.now c.in-Ok.again c.args.message.now c.in-Ok.ensures.means (rw c.as_slice.ensures.value c.in_ok-bytes.ensures.read_again)

pub unreachable-requires : goal.unreachable-requires
unreachable-requires c =
    never_refused c.as_slice.result.now c.args.message.now c.in-Err-Refused.field-0-0.at c.in-Err-Refused.field-0-0.why (rw c.as_slice.ensures.value c.in_ok-bytes.ensures.read_again) (rw c.in-Err-Refused.field-0-is at c.in-Err-Refused.ensures.refused)
