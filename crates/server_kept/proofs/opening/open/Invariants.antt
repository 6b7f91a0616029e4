use Rattle.std.proofs.Common.{IsTrue}
use Rattle.server_kept.specs.Opening.{Gathered, SameShelf}
use Rattle.server_kept.proofs.opening.open.Given as goal

abbrev pub invariant-loop-name : goal.invariant-loop-name
invariant-loop-name g l = let state = g.S.Shelf.state in record {
  same : SameShelf (state l.fn.shelf) (state l.shelf);
  found : IsTrue (state l.fn.shelf).told → Gathered (state l.fn.shelf).files l.name-items l.name-index l.found;
}
