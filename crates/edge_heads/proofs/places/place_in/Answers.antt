use Rattle.std.proofs.Common.{ℕ, List, Some, ap, ◌∙◌}
use Rattle.edge_heads.specs.declared.places.Place.TheVariants as place
use Rattle.edge_heads.specs.Places.{place_behind}
use Rattle.edge_heads.proofs.PlaceLemmas.{known-from, from-there}
use Rattle.edge_heads.proofs.places.place_in.Goals as goal

pub returns-in-Some : goal.returns-in-Some
returns-in-Some c =
    let bytes = c.args.bytes.now in
    let at = c.in-Some.at in
    known-from c.args.side bytes at c.place_behind.result c.requires.begun c.in-Some.ensures
    (c.place_behind.ensures ∙ ap (λ (t : List ℕ). place_behind c.args.side (Some place.Line) t) (from-there at bytes))
