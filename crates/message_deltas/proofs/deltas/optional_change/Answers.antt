use Rattle.std.proofs.Common.{sym, ◌∙◌}
use Rattle.std.specs.Coded.{coded_option}
use Rattle.std.proofs.lemmas.Result.{IfOk-weaker}
use Rattle.message_deltas.proofs.SamenessLemmas.{left_out, carried}
use Rattle.message_deltas.proofs.deltas.optional_change.Goals as goal

pub returns-then-is_same : goal.returns-then-is_same
returns-then-is_same g c = λ code. left_out code c.args.before.now c.args.now.now (sym (c.is_same.ensures (coded_option code)) ∙ c.if-is_same.true)

pub returns-else-is_same : goal.returns-else-is_same
returns-else-is_same g c = λ code. IfOk-weaker c.copy.result _ _ (λ r copied. copied ∙ carried code c.args.before.now c.args.now.now (sym (c.is_same.ensures (coded_option code)) ∙ c.if-is_same.false)) c.copy.ensures.copied
