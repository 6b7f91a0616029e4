use Rattle.std.proofs.Common.{◌<◌, length, sym, ◌∙◌, ap, subst}
use Rattle.server_core.specs.declared.rows.Record.{Record}
use Rattle.server_core.proofs.GatherLemmas.{gathered_moved, gathered_stayed}
use Rattle.server_core.proofs.forgetting.gather_here.Goals as goal
use Rattle.server_core.proofs.forgetting.gather_here.Goals.{then-not-records-at, else-not-records-at}

pub loop-at-preserved : goal.loop-at-preserved
loop-at-preserved c =
    let r = c.index-records-at.result in
    let lt : c.loop-at.at < length c.loop-at.records = subst (λ n. c.loop-at.at < n) (sym c.loop-at.auto.records) c.loop-at-test.true in
    elim c.if-not-records-at.branch [
      | then-not-records-at w ↦
          gathered_moved c.args.records.now c.args.rows.now c.loop-at.here c.loop-at.at c.loop-at.records c.loop-at.rows c.loop-at.invariant r c.index-records-at.is lt
          (ap (λ (x : Record). x.left) c.index-records-at.is ∙ w.if-not-records-at.true) c.if-not-records-at.here c.if-not-records-at.records c.if-not-records-at.rows
          w.here-is (w.records-is ∙ w.swap.ensures.after) (w.rows-is ∙ w.swap-then-not-records-at.ensures.after)
      | else-not-records-at w ↦
          gathered_stayed c.args.records.now c.args.rows.now c.loop-at.here c.loop-at.at c.loop-at.records c.loop-at.rows c.loop-at.invariant r c.index-records-at.is lt
          (ap (λ (x : Record). x.left) c.index-records-at.is ∙ w.if-not-records-at.false) c.if-not-records-at.here c.if-not-records-at.records c.if-not-records-at.rows
          w.here-is w.records-is w.rows-is
    ]
