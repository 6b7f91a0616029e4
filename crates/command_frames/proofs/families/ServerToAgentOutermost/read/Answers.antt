use Rattle.std.proofs.Common.{length}
use Rattle.message_replies.specs.Replies.{ReplyFault}
use Rattle.command_frames.proofs.Decided.{fails_within}
use Rattle.command_frames.proofs.families.ServerToAgentOutermost.read.Goals as goal

pub returns-clause-place : goal.returns-clause-place
returns-clause-place c = fails_within (length c.args.bytes.now) (ReplyFault c.args.bytes.now) c.decode_reply.result (c.reply_fault.ensures.within c.args.bytes.now) c.decode_reply.ensures.refused
