use Rattle.std.proofs.Common.{◌≡◌, false, sym, ◌∙◌, subst}
use Rattle.agent_packages.specs.Due.{IsDue}
use Rattle.agent_packages.specs.Touched.{fetched_names, gone_names, is_named}
use Rattle.agent_packages.proofs.Dues.{asks_offered, only_then, due_fetched, due_gone}
use Rattle.agent_packages.proofs.Touching.{untouched}
use Rattle.agent_packages.proofs.syncing.do_offer.Goals as goal

pub returns-in_err-visit_all-clause-kept : goal.returns-in_err-visit_all-clause-kept
returns-in_err-visit_all-clause-kept g c name e =
    c.in_err-visit_all.ensures.kept name
    (subst (λ items. is_named (fetched_names c.args.held.now.packages items) name ≡ false) (sym c.as_slice.ensures.value)
    (untouched c.args.held.now c.args.offered.now name c.requires.other e).0)

pub returns-in_err-clear_all-clause-kept : goal.returns-in_err-clear_all-clause-kept
returns-in_err-clear_all-clause-kept g c name e =
    c.in_err-clear_all.ensures.kept name
    (subst (λ items. is_named (gone_names c.args.offered.now.packages items) name ≡ false) (sym c.as_slice-2.ensures.value)
    (untouched c.args.held.now c.args.offered.now name c.requires.other e).1)
    ∙ c.in_ok-visit_all.ensures.kept name
    (subst (λ items. is_named (fetched_names c.args.held.now.packages items) name ≡ false) (sym c.as_slice.ensures.value)
    (untouched c.args.held.now c.args.offered.now name c.requires.other e).0)

pub returns-clause-kept : goal.returns-clause-kept
returns-clause-kept g c name e =
    c.in_ok-clear_all.ensures.kept name
    (subst (λ items. is_named (gone_names c.args.offered.now.packages items) name ≡ false) (sym c.as_slice-2.ensures.value)
    (untouched c.args.held.now c.args.offered.now name c.requires.other e).1)
    ∙ c.in_ok-visit_all.ensures.kept name
    (subst (λ items. is_named (fetched_names c.args.held.now.packages items) name ≡ false) (sym c.as_slice.ensures.value)
    (untouched c.args.held.now c.args.offered.now name c.requires.other e).0)

pub returns-in_err-visit_all-clause-only : goal.returns-in_err-visit_all-clause-only
returns-in_err-visit_all-clause-only g c = due_fetched c.args.held.now c.args.offered.now _ _ _ c.as_slice.ensures.value c.in_err-visit_all.ensures.only

pub returns-in_err-clear_all-clause-only : goal.returns-in_err-clear_all-clause-only
returns-in_err-clear_all-clause-only g c =
    only_then (IsDue c.args.held.now c.args.offered.now) _ _ _
    (due_fetched c.args.held.now c.args.offered.now _ _ _ c.as_slice.ensures.value c.in_ok-visit_all.ensures.only)
    (due_gone c.args.held.now c.args.offered.now _ _ _ c.as_slice-2.ensures.value c.in_err-clear_all.ensures.only)

pub returns-clause-only : goal.returns-clause-only
returns-clause-only g c =
    only_then (IsDue c.args.held.now c.args.offered.now) _ _ _
    (due_fetched c.args.held.now c.args.offered.now _ _ _ c.as_slice.ensures.value c.in_ok-visit_all.ensures.only)
    (due_gone c.args.held.now c.args.offered.now _ _ _ c.as_slice-2.ensures.value c.in_ok-clear_all.ensures.only)

pub returns-in_err-visit_all-clause-fetches : goal.returns-in_err-visit_all-clause-fetches
returns-in_err-visit_all-clause-fetches g c = asks_offered c.args.held.now.packages c.args.offered.now.packages _ _ _ c.as_slice.ensures.value c.in_err-visit_all.ensures.fetches

pub returns-in_err-clear_all-clause-fetches : goal.returns-in_err-clear_all-clause-fetches
returns-in_err-clear_all-clause-fetches g c = asks_offered c.args.held.now.packages c.args.offered.now.packages _ _ _ c.as_slice.ensures.value c.in_ok-visit_all.ensures.fetches

pub returns-clause-fetches : goal.returns-clause-fetches
returns-clause-fetches g c = asks_offered c.args.held.now.packages c.args.offered.now.packages _ _ _ c.as_slice.ensures.value c.in_ok-visit_all.ensures.fetches
