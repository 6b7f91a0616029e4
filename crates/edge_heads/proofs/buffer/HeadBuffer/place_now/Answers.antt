use Rattle.std.proofs.Common.{ℕ, ◌<◌, List, length, drop, ap, ◌∙◌, subst}
use Rattle.edge_heads.specs.declared.TheConstants.{HEAD_LIMIT}
use Rattle.edge_heads.specs.Places.{Unused, IsKnown, place_behind}
use Rattle.edge_heads.proofs.PlaceLemmas.{known-now, from-there}
use Rattle.edge_heads.proofs.buffer.HeadBuffer.place_now.Goals as goal

pub returns : goal.returns
returns c =
    let inside = c.self.inside in
    let bytes = inside.bytes.items in
    let there = c.as_slice-bytes.result.now in
    let e = c.as_slice-bytes.ensures in
    let short : length bytes < HEAD_LIMIT = subst (λ (t : List ℕ). length t < HEAD_LIMIT) e c.if-bytes-ge-HEAD_LIMIT.false in
    let behind =
    c.place_behind.ensures ∙ ap (λ (t : List ℕ). place_behind inside.side inside.place t) (from-there inside.known there)
    ∙ ap (λ (t : List ℕ). place_behind inside.side inside.place (drop inside.known t)) e in
    subst (λ (u : Unused). IsKnown u.side c.place_behind.result u.items) c.self.view_is
    (known-now inside.side bytes inside.known inside.place c.place_behind.result short c.self.invariant.1 behind)
