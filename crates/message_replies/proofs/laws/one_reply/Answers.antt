use Rattle.message_replies.proofs.Again.{same_reply}
use Rattle.message_replies.proofs.laws.one_reply.Goals as goal

pub returns : goal.returns
returns c = record { one = same_reply }
