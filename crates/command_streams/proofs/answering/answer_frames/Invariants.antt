use Rattle.std.proofs.Common.{length}
use Rattle.command_streams.proofs.Answered.{IsAnswered}
use Rattle.command_streams.proofs.answering.answer_frames.Given as goal

abbrev pub invariant-frames : goal.invariant-frames
invariant-frames g l = IsAnswered g.H.Handler.gives l.fn.handler l.fn.held l.handler l.held l.fn.pending.bytes l.pending.bytes

abbrev pub decreases-frames : goal.decreases-frames
decreases-frames g l = length l.held.bytes
