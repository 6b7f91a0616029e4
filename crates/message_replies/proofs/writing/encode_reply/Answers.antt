use Rattle.message_replies.proofs.Again.{reads_again}
use Rattle.message_replies.proofs.Shallow.{never_deep}
use Rattle.message_replies.proofs.writing.encode_reply.Goals as goal

pub returns-clause-read_again : goal.returns-clause-read_again
returns-clause-read_again c = reads_again c.args.message.now c.encode.result c.encode.ensures.written c.encode.ensures.read_again

pub returns-clause-failed : goal.returns-clause-failed
returns-clause-failed c = never_deep c.args.message.now c.encode.result c.encode.ensures.failed
