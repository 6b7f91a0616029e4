use Rattle.std.proofs.Common.{◌≤◌, length, refl}
use Rattle.command_frames.specs.Rewriting.{Rewrites}
use Rattle.command_frames.proofs.Refusals.{refused_of, refusal_gives, refusal_within}
use Rattle.command_frames.proofs.canon.Canon.rewrite.Goals as goal

pub returns-clause-gives : goal.returns-clause-gives
returns-clause-gives g c =
    refusal_gives (Rewrites g.M.Outermost.family) c.args.self.now c.args.message.now c.args.output.now.bytes (g.M.Outermost.family.fault c.args.message.now) (λ at why fault. (fault, refl)) c.in-Err.fail c.refusal.result (refused_of (g.M.Outermost.family.fault c.args.message.now) c.read-read.result c.in-Err.fail c.in-Err.is c.read-read.ensures.refused) c.refusal.ensures.refused

pub returns-clause-place : goal.returns-clause-place
returns-clause-place g c = refusal_within c.args.message.now c.in-Err.fail c.refusal.result (refused_of (λ at why. at ≤ length c.args.message.now) c.read-read.result c.in-Err.fail c.in-Err.is c.read-read.ensures.place) c.refusal.ensures.refused
