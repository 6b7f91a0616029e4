use Rattle.std.proofs.Common.{Some, sym, ◌∙◌, ap}
use Rattle.message_deltas.proofs.SamenessLemmas.{same-some, left_out, carried}
use Rattle.message_deltas.proofs.deltas.change.Goals as goal

pub returns-then-is_same : goal.returns-then-is_same
returns-then-is_same g c = λ code.
    left_out code (Some c.args.before.now) (Some c.args.now.now) (same-some code c.args.before.now c.args.now.now ∙ sym (c.is_same.ensures code) ∙ c.if-is_same.true)

pub returns-in_ok-copy : goal.returns-in_ok-copy
returns-in_ok-copy g c = λ code.
    ap (λ x. Some x) c.in_ok-copy.ensures.copied
    ∙ carried code (Some c.args.before.now) (Some c.args.now.now) (same-some code c.args.before.now c.args.now.now ∙ sym (c.is_same.ensures code) ∙ c.if-is_same.false)
