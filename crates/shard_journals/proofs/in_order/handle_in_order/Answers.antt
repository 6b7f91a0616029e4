use Rattle.std.proofs.Common.{◌+◌, List, length, ap, sym, ◌∙◌}
use Rattle.std.specs.Prelude.{slice_get}
use Rattle.shard_journals.specs.declared.rows.Row.{Row}
use Rattle.shard_journals.proofs.InOrder.{one_longer, one_more}
use Rattle.shard_journals.proofs.in_order.handle_in_order.Goals as goal

pub loop-shard-preserved : goal.loop-shard-preserved
loop-shard-preserved c =
    let journals = c.loop-shard.journals in
    let new = c.in_ok-journal_of.field-0 in
    let all = c.in_ok-push.ensures.ok in (
      ap length all ∙ one_longer journals new ∙ ap (λ n. n + 1) c.loop-shard.invariant.0,
      λ shard rows at. one_more c.args.items.now c.args.desks journals new c.loop-shard.shard c.loop-shard.invariant.0 c.loop-shard.invariant.1 c.in_ok-journal_of.ensures.journal shard rows (ap (λ (js : List (List Row)). slice_get js shard) (sym all) ∙ at),
    )
