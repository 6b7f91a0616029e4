use Rattle.std.proofs.Common.{◌∙◌, ℕ, ap, min}
use Rattle.message_replies.proofs.Shallow.{deeper, all_columns}
use Rattle.message_replies.proofs.replies.ServerToAgentWrittenServer.deepest.Goals as goal

pub returns : goal.returns
returns c =
    let two = c.max-most.ensures ∙ deeper _ _ _ _ c.depth_one-most.ensures.levels c.depth_one.ensures.levels in
    let three = c.max-most-2.ensures ∙ deeper _ _ _ _ two c.depth_one-2.ensures.levels in
    let four = c.max-most-3.ensures ∙ deeper _ _ _ _ three c.depth_one-3.ensures.levels in
    let five = c.max-most-4.ensures ∙ deeper _ _ _ _ four c.depth_one-4.ensures.levels in
    let six = c.max-most-5.ensures ∙ deeper _ _ _ _ five c.depth_one-5.ensures.levels in
    let seven = c.max-most-6.ensures ∙ deeper _ _ _ _ six c.depth_one-6.ensures.levels in
    let eight = c.max.ensures ∙ deeper _ _ _ _ seven c.depth_one-7.ensures.levels in
    record { levels = eight ∙ ap (λ (n : ℕ). min n 100) (all_columns _ _ _ _ _ _ _ _) }
