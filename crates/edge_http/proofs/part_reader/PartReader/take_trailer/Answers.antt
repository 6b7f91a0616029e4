use Rattle.std.proofs.Common.{ℕ, List, ap, ◌∙◌, subst}
use Rattle.edge_heads.specs.declared.values.HttpFail.TheVariants.{BadChunk}
use Rattle.edge_http.specs.declared.messages.Stage.TheVariants as stage
use Rattle.edge_heads.specs.Bodies.{IsTrailerBegun, IsNoTrailer}
use Rattle.edge_heads.specs.Finds.{IsTrailerFound}
use Rattle.edge_http.specs.Readers.{ReaderState}
use Rattle.edge_http.proofs.Ends.{trailer_failed}
use Rattle.edge_http.proofs.Moving.{moves-still, waits-at, stops, stops-memory, makes-none, makes-same, moved-trailer, fewer}
use Rattle.edge_http.proofs.part_reader.PartReader.take_trailer.Goals as goal

pub returns-in-More : goal.returns-in-More
returns-in-More c =
    let old = c.args.self.now in
    let u = c.as_slice.ensures.value ∙ (ap (λ (r : ReaderState). r.unused) c.self.view_is) in
    (moves-still old, waits-at old stage.Trailer c.requires.at (subst IsTrailerBegun u c.in-More.ensures.found))

pub returns-in-Bad : goal.returns-in-Bad
returns-in-Bad c =
    let old = c.args.self.now in
    let u = c.as_slice.ensures.value ∙ (ap (λ (r : ReaderState). r.unused) c.self.view_is) in
    stops old old BadChunk stage.Trailer (makes-none old) c.requires.at
    (λ bytes whole v s. trailer_failed old.side old.limit old.unused bytes whole v s (subst IsNoTrailer u c.in-Bad.ensures.found))

pub returns-in-Err : goal.returns-in-Err
returns-in-Err c =
    stops-memory c.args.self.now c.finish.new.self c.in-Err.why (makes-same c.args.self.now c.finish.new.self c.in-Err.ensures.no_memory.1) c.in-Err.ensures.no_memory.0

pub returns-in-Ok : goal.returns-in-Ok
returns-in-Ok c =
    let old = c.args.self.now in
    let new = c.finish.new.self in
    let len = c.in-Whole.len in
    let u = c.as_slice.ensures.value ∙ (ap (λ (r : ReaderState). r.unused) c.self.view_is) in
    let found : IsTrailerFound old.unused len = subst (λ (t : List ℕ). IsTrailerFound t len) u c.in-Whole.ensures.found in
    let made = c.in-Ok.ensures.made in
    (moved-trailer old new len c.requires.at found made.0 made.1 made.2, fewer old.unused new.unused len found.some found.within made.1)
