use Rattle.std.proofs.Common.{◌+◌, Bool, take, sym, ◌∙◌, ap, subst, ℕ, List}
use Rattle.std.specs.Prelude.{filter, not, is_some}
use Rattle.plain_values.specs.declared.maps.Pair.{Pair}
use Rattle.message_values.specs.declared.packages.PackageStatus.{PackageStatus}
use Rattle.plain_values.specs.Pairs.{value_at}
use Rattle.edge_devices.specs.declared.folders.FolderCall.{FolderCall}
use Rattle.agent_packages.specs.Due.{IsGoneRemove, MakesOnly}
use Rattle.agent_packages.specs.Visits.{IsCleared}
use Rattle.agent_packages.specs.Touched.{is_named, gone_names}
use Rattle.agent_packages.proofs.Dues.{only_then, only_gone}
use Rattle.agent_packages.proofs.Touching.{Keeps, keeps_then, not_named}
use Rattle.agent_packages.proofs.Visiting.{cleared_more, cleared_same}
use Rattle.agent_packages.proofs.syncing.clear_all.Goals as goal
use Rattle.agent_packages.proofs.syncing.clear_all.Goals.{then-not-is_offered+in_ok-clear, else-not-is_offered}

pub loop-item-preserved : goal.loop-item-preserved
loop-item-preserved g c =
    let state = g.F.Folder.state in
    let gone : Pair PackageStatus → Bool = λ item. not (is_some (value_at c.args.offered.now item.key)) in
    let items = filter gone (take (c.loop-item.item-index + 1) c.args.items.now) in
    let start = state c.args.folder.now in
    let touched : List ℕ → Bool = is_named (gone_names c.args.offered.now c.args.items.now) in
    let own : FolderCall → Type 0 = IsGoneRemove c.args.offered.now c.args.items.now in
    elim c.if-not-is_offered.branch [
      | then-not-is_offered+in_ok-clear w ↦
          subst (λ folder. IsCleared start (state folder) items c.args.made.now c.if-not-is_offered.made × Keeps touched start (state folder) × MakesOnly own start (state folder)) (sym w.folder-is)
          (subst (λ made. IsCleared start (state w.clear.new.folder) items c.args.made.now made × Keeps touched start (state w.clear.new.folder) × MakesOnly own start (state w.clear.new.folder)) (sym w.made-is) (
            cleared_more _ _ _ gone c.args.items.now c.loop-item.item-index c.item-item.result _ _ _ c.loop-item.invariant.0 c.loop-item-test.true c.item-item.is
                (ap not (sym c.is_offered.ensures ∙ w.if-not-is_offered.true)) w.in_ok-clear.ensures.cleared,
            keeps_then touched start (state c.loop-item.folder) (state w.clear.new.folder) c.loop-item.invariant.1 w.in_ok-clear.ensures.others (λ name e. w.in_ok-clear.ensures.kept name
                (not_named gone name c.args.items.now c.loop-item.item-index c.item-item.result c.loop-item-test.true c.item-item.is (ap not (sym c.is_offered.ensures ∙ w.if-not-is_offered.true)) e)),
            only_then own start (state c.loop-item.folder) (state w.clear.new.folder) c.loop-item.invariant.2
                (only_gone c.args.offered.now c.args.items.now c.loop-item.item-index c.item-item.result _ _ c.loop-item-test.true c.item-item.is (sym c.is_offered.ensures ∙ w.if-not-is_offered.true) w.in_ok-clear.ensures.only),
          ))
      | else-not-is_offered w ↦
          subst (λ folder. IsCleared start (state folder) items c.args.made.now c.if-not-is_offered.made × Keeps touched start (state folder) × MakesOnly own start (state folder)) (sym w.folder-is)
          (subst (λ made. IsCleared start (state c.loop-item.folder) items c.args.made.now made × Keeps touched start (state c.loop-item.folder) × MakesOnly own start (state c.loop-item.folder)) (sym w.made-is) (
            cleared_same _ _ gone c.args.items.now c.loop-item.item-index c.item-item.result _ _ c.loop-item.invariant.0 c.loop-item-test.true c.item-item.is
                (ap not (sym c.is_offered.ensures ∙ w.if-not-is_offered.false)),
            c.loop-item.invariant.1,
            c.loop-item.invariant.2,
          ))
    ]

pub returns-in_err-clear-clause-kept : goal.returns-in_err-clear-clause-kept
returns-in_err-clear-clause-kept g c name e =
    let gone : Pair PackageStatus → Bool = λ item. not (is_some (value_at c.args.offered.now item.key)) in
    c.in_err-clear.ensures.kept name
    (not_named gone name c.args.items.now c.loop-item.item-index c.item-item.result c.loop-item-test.true c.item-item.is (ap not (sym c.is_offered.ensures ∙ c.if-not-is_offered.true)) e)
    ∙ c.loop-item.invariant.1.1 name e

pub returns-in_err-clear-clause-only : goal.returns-in_err-clear-clause-only
returns-in_err-clear-clause-only g c =
    only_then (IsGoneRemove c.args.offered.now c.args.items.now) _ _ _ c.loop-item.invariant.2
    (only_gone c.args.offered.now c.args.items.now c.loop-item.item-index c.item-item.result _ _ c.loop-item-test.true c.item-item.is (sym c.is_offered.ensures ∙ c.if-not-is_offered.true) c.in_err-clear.ensures.only)
