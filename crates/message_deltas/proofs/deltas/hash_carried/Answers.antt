use Rattle.plain_values.specs.contracts.texts.Blob as blob
use Rattle.std.proofs.Common.{cond, sym, ap, ◌∙◌}
use Rattle.std.proofs.lemmas.Result.{IfOk-weaker}
use Rattle.message_deltas.specs.Sameness.{where_differs}
use Rattle.message_deltas.specs.Deltas.{hash_carried}
use Rattle.message_deltas.proofs.deltas.hash_carried.Goals as goal

pub returns-else-detailed : goal.returns-else-detailed
unfolding hash_carried
returns-else-detailed c = record {
  hash = IfOk-weaker c.optional_change.result _ _
      (λ hash made. made ∙ ap (λ b. cond b c.args.now.now.components (where_differs blob.the_row.coded c.args.before.now.components c.args.now.now.components)) (sym c.if-detailed.false))
      (c.optional_change.ensures blob.the_row.coded);
}
