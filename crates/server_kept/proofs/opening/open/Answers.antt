use Rattle.std.proofs.Common.{List, ℕ, ◌∙◌, sym, subst, arith, IsTrue}
use Rattle.std.proofs.lemmas.List.{get_or_default}
use Rattle.edge_devices.specs.Folders.{AreNames}
use Rattle.edge_shelf.specs.Shelves.{Body}
use Rattle.server_kept.specs.Opening.{Adds}
use Rattle.server_kept.proofs.OpenLemmas.{fails_since, gathered_all, gathered_more, gathered_none, same_same}
use Rattle.server_kept.proofs.opening.open.Goals as goal

pub loop-name-init : goal.loop-name-init
loop-name-init g c = let looks = c.in_ok-names.ensures.looks in record {
  same = record { told = looks.cause.told; files = looks.files; left = looks.left; later = looks.cause.later };
  found = λ told. gathered_none _ _ _ c.new-found.ensures.empty;
}

pub loop-name-preserved : goal.loop-name-preserved
loop-name-preserved g c =
    let state = g.S.Shelf.state in
    let items = c.as_slice-name-items.result.now in
    let so = c.loop-name.invariant in
    record {
      same = same_same (state c.args.shelf.now) (state c.loop-name.shelf) (state c.read_one.new.shelf) so.same c.in-Ok.ensures.same;
      found = λ told. gathered_more (state c.args.shelf.now).files items c.loop-name.name-index c.name-item.result c.loop-name.found c.read_one.new.found
          (λ d. get_or_default items c.loop-name.name-index d c.name-item.result (omega (arith, c.loop-name-test.true)) ∙ sym c.name-item.is)
          (so.found told)
          (subst (λ (files : List ℕ → Body). Adds files c.name-item.result c.loop-name.found c.read_one.new.found) so.same.files (c.in-Ok.ensures.adds (subst IsTrue (sym so.same.told) told)));
    }

pub returns-in-Err-clause-failed : goal.returns-in-Err-clause-failed
returns-in-Err-clause-failed g c =
    let state = g.S.Shelf.state in
    fails_since (state c.args.shelf.now) (state c.loop-name.shelf) (state c.read_one.new.shelf) c.in-Err.fail c.loop-name.invariant.same c.read_one.ensures.same c.in-Err.ensures.failed

pub returns-in-Err-clause-same : goal.returns-in-Err-clause-same
returns-in-Err-clause-same g c =
    let state = g.S.Shelf.state in
    same_same (state c.args.shelf.now) (state c.loop-name.shelf) (state c.read_one.new.shelf) c.loop-name.invariant.same c.read_one.ensures.same

pub returns-clause-opened : goal.returns-clause-opened
returns-clause-opened g c =
    let state = g.S.Shelf.state in
    let items = c.as_slice-name-items.result.now in
    λ told. gathered_all (state c.args.shelf.now).files items c.loop-name.name-index c.loop-name.found
    (subst (λ (names : List (List ℕ)). AreNames (state c.args.shelf.now).files names) (sym c.as_slice-name-items.ensures.value) (c.in_ok-names.ensures.names told))
    (omega (arith, c.loop-name-test.false)) (c.loop-name.invariant.found told)

pub returns-clause-same : goal.returns-clause-same
returns-clause-same g c = c.loop-name.invariant.same
