use Rattle.std.proofs.Common.{◌≡◌, sym, ap, ◌∙◌, subst, arith, ◌<◌, refl}
use Rattle.edge_http.specs.declared.messages.Stage.{Stage}
use Rattle.edge_http.specs.Steps.{StageFits, Gives}
use Rattle.edge_http.specs.Readers.{ReaderState}
use Rattle.edge_http.proofs.Moving.{stops-memory, makes-same, moved-data, moved-data-done, staged-makes, spent, full, fewer}
use Rattle.edge_http.proofs.part_reader.PartReader.take_data.Goals as goal

pub returns-in-Err : goal.returns-in-Err
returns-in-Err c =
    stops-memory c.args.self.now c.give.new.self c.in-Err.why (makes-same c.args.self.now c.give.new.self c.in-Err.ensures.no_memory.1) c.in-Err.ensures.no_memory.0

pub returns-then-count-left : goal.returns-then-count-left
returns-then-count-left c =
    let old = c.args.self.now in
    let mid = c.give.new.self in
    let count = c.in-Ok.count in
    let g : Gives old mid c.args.left count = c.in-Ok.ensures.given in
    let mine = ap (λ (r : ReaderState). r.unused) c.self.view_is in (
      moved-data old _ c.args.left c.args.sum count c.requires.at g.within c.if-count-left.true (staged-makes old mid _ _ _ g.makes (sym c.self.view_is)) (mine ∙ g.unused) refl,
      mine ∙ spent old mid c.args.left count g c.if-count-left.true,
    )

pub returns-else-count-left : goal.returns-else-count-left
returns-else-count-left c =
    let old = c.args.self.now in
    let mid = c.give.new.self in
    let left = c.args.left in
    let count = c.in-Ok.count in
    let g : Gives old mid left count = c.in-Ok.ensures.given in
    let is : count ≡ left = full old mid left count g c.if-count-left.false in
    let mine = ap (λ (r : ReaderState). r.unused) c.self.view_is in
    let some = subst (λ (s : Stage). StageFits c.self.inside.limit s) (ap (λ (r : ReaderState). r.stage) c.self.view_is ∙ g.stage ∙ c.requires.at) c.self.invariant.1 in
    let low : 0 < left = some.0 in (
      moved-data-done old _ left c.args.sum count c.requires.at g.within is (staged-makes old mid _ _ _ g.makes (sym c.self.view_is)) (mine ∙ g.unused) refl,
      fewer old.unused _ count (omega arith) g.within (mine ∙ g.unused),
    )
