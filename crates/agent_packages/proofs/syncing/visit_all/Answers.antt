use Rattle.std.proofs.Common.{◌∙◌}
use Rattle.agent_packages.specs.Packages.{is_same}
use Rattle.agent_packages.specs.Due.{IsDueFetch, IsFetchedWrite}
use Rattle.agent_packages.specs.Touched.{is_named, fetched_names}
use Rattle.agent_packages.proofs.Dues.{asks_due, asks_only_then, only_then, only_fetched}
use Rattle.agent_packages.proofs.Touching.{keeps_then, not_its}
use Rattle.agent_packages.proofs.Visiting.{visited_more}
use Rattle.agent_packages.proofs.syncing.visit_all.Goals as goal

pub loop-item-preserved : goal.loop-item-preserved
loop-item-preserved g c = (
  visited_more _ _ _ _ _ _ _ _ c.loop-item.item-index c.item-item.result _ _ _ c.loop-item.invariant.0 c.loop-item-test.true c.item-item.is c.in_ok-visit.ensures.visited,
  keeps_then (is_named (fetched_names c.args.held.now c.args.items.now)) (g.F.Folder.state c.args.folder.now) (g.F.Folder.state c.loop-item.folder) (g.F.Folder.state c.visit.new.folder) c.loop-item.invariant.1 c.in_ok-visit.ensures.others (λ name e. c.in_ok-visit.ensures.kept name
      (not_its (is_same c.args.held.now) c.args.items.now c.loop-item.item-index c.item-item.result name c.loop-item-test.true c.item-item.is e)),
  only_then (IsFetchedWrite c.args.held.now c.args.items.now) _ _ _ c.loop-item.invariant.2 (only_fetched c.args.held.now c.args.items.now c.loop-item.item-index c.item-item.result _ _ c.loop-item-test.true c.item-item.is c.in_ok-visit.ensures.only),
  asks_only_then (IsDueFetch c.args.held.now c.args.items.now) _ _ _ c.loop-item.invariant.3 (asks_due c.args.held.now c.args.items.now c.loop-item.item-index c.item-item.result _ _ c.loop-item-test.true c.item-item.is c.in_ok-visit.ensures.fetches),
)

pub returns-in_err-visit-clause-kept : goal.returns-in_err-visit-clause-kept
returns-in_err-visit-clause-kept g c name e =
    c.in_err-visit.ensures.kept name (not_its (is_same c.args.held.now) c.args.items.now c.loop-item.item-index c.item-item.result name c.loop-item-test.true c.item-item.is e)
    ∙ c.loop-item.invariant.1.1 name e

pub returns-in_err-visit-clause-only : goal.returns-in_err-visit-clause-only
returns-in_err-visit-clause-only g c =
    only_then (IsFetchedWrite c.args.held.now c.args.items.now) _ _ _ c.loop-item.invariant.2 (only_fetched c.args.held.now c.args.items.now c.loop-item.item-index c.item-item.result _ _ c.loop-item-test.true c.item-item.is c.in_err-visit.ensures.only)

pub returns-in_err-visit-clause-fetches : goal.returns-in_err-visit-clause-fetches
returns-in_err-visit-clause-fetches g c =
    asks_only_then (IsDueFetch c.args.held.now c.args.items.now) _ _ _ c.loop-item.invariant.3 (asks_due c.args.held.now c.args.items.now c.loop-item.item-index c.item-item.result _ _ c.loop-item-test.true c.item-item.is c.in_err-visit.ensures.fetches)
