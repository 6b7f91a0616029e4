use Rattle.std.proofs.Common.{◌≡◌, ◌+◌, List, take, ap, sym, subst, ◌∙◌}
use Rattle.shard_journals.specs.declared.rows.Row.{Row}
use Rattle.shard_journals.specs.Fleets.{IsJournalOf}
use Rattle.shard_journals.specs.Sharding.{shard_of}
use Rattle.shard_journals.proofs.InOrder.{of_another, of_shard}
use Rattle.shard_journals.proofs.in_order.journal_of.Goals as goal
use Rattle.shard_journals.proofs.in_order.journal_of.Goals.{then-shard_of-shard+in_ok-handle, else-shard_of-shard}

pub loop-at-preserved : goal.loop-at-preserved
loop-at-preserved c =
    let items = c.args.items.now in
    let at = c.loop-at.at in
    let m = c.index-items-at.result in
    let desks = c.args.desks in
    let shard = c.args.shard in
    let rows = c.loop-at.journal in
    let found : c.shard_of.result ≡ shard_of m.instance_uid = c.shard_of.ensures.shard ∙ ap shard_of c.as_slice.ensures.value in
    elim c.if-shard_of-shard.branch [
      | then-shard_of-shard+in_ok-handle w ↦
          subst (λ (rs : List Row). IsJournalOf (take (at + 1) items) desks shard rs) (sym (w.journal-is ∙ w.in_ok-handle.ensures.kept))
          (of_shard items at m desks shard rows c.loop-at-test.true c.index-items-at.is c.loop-at.invariant w.in_ok-handle.field-0 (sym found ∙ w.if-shard_of-shard.true) w.in_ok-handle.ensures.row)
      | else-shard_of-shard w ↦
          subst (λ (rs : List Row). IsJournalOf (take (at + 1) items) desks shard rs) (sym w.journal-is)
          (of_another items at m desks shard rows c.loop-at-test.true c.index-items-at.is c.loop-at.invariant (λ same. w.if-shard_of-shard.false (found ∙ same)))
    ]
