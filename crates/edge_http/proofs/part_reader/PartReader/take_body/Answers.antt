use Rattle.std.proofs.Common.{◌≡◌, [], ◌∷◌, sym, ap, ◌∙◌, subst, arith, take, drop, ◌<◌, refl}
use Rattle.edge_http.specs.declared.messages.Part.TheVariants as part
use Rattle.edge_http.specs.declared.messages.Stage.{Stage}
use Rattle.edge_http.specs.Steps.{StageFits, Gives, body_parts}
use Rattle.edge_http.specs.Readers.{ReaderState}
use Rattle.edge_http.proofs.Moving.{stops-memory, stops-more, whole-body, makes-same, makes-then-same, moved-body, moved-body-done, staged-makes, more-makes, spent, full, fewer}
use Rattle.edge_http.proofs.part_reader.PartReader.take_body.Goals as goal

pub returns-in-Err : goal.returns-in-Err
returns-in-Err c =
    stops-memory c.args.self.now c.give.new.self c.in-Err.why (makes-same c.args.self.now c.give.new.self c.in-Err.ensures.no_memory.1) c.in-Err.ensures.no_memory.0

pub returns-then-count-left : goal.returns-then-count-left
returns-then-count-left c =
    let old = c.args.self.now in
    let mid = c.give.new.self in
    let count = c.in-Ok.count in
    let g : Gives old mid c.args.left count = c.in-Ok.ensures.given in
    let mine = ap (λ (r : ReaderState). r.unused) c.self.view_is in (
      moved-body old _ c.args.left count c.requires.at g.within c.if-count-left.true (staged-makes old mid _ _ _ g.makes (sym c.self.view_is)) (mine ∙ g.unused) refl,
      mine ∙ spent old mid c.args.left count g c.if-count-left.true,
    )

pub returns-in-Err-finish : goal.returns-in-Err-finish
returns-in-Err-finish c =
    let old = c.args.self.now in
    let mid = c.give.new.self in
    let g : Gives old mid c.args.left c.in-Ok.count = c.in-Ok.ensures.given in
    stops-more old c.finish.new.self c.in-Err-finish.why (body_parts (take c.in-Ok.count old.unused))
    (makes-then-same old mid c.finish.new.self _ g.makes c.in-Err-finish.ensures.no_memory.1) (whole-body (take c.in-Ok.count old.unused)) c.in-Err-finish.ensures.no_memory.0

pub returns-in-Ok-finish : goal.returns-in-Ok-finish
returns-in-Ok-finish c =
    let old = c.args.self.now in
    let mid = c.give.new.self in
    let new = c.finish.new.self in
    let left = c.args.left in
    let count = c.in-Ok.count in
    let g : Gives old mid left count = c.in-Ok.ensures.given in
    let is : count ≡ left = full old mid left count g c.if-count-left.false in
    let made = c.in-Ok-finish.ensures.made in
    let rest : new.unused ≡ drop count old.unused = made.1 ∙ g.unused in
    let some : 0 < left = subst (λ (s : Stage). StageFits c.self.inside.limit s) (ap (λ (r : ReaderState). r.stage) c.self.view_is ∙ g.stage ∙ c.requires.at) c.self.invariant.1 in (
      moved-body-done old new left count c.requires.at g.within is (more-makes old mid new (body_parts (take count old.unused)) (part.Done ∷ []) g.makes made.0) rest made.2,
      fewer old.unused new.unused count (omega arith) g.within rest,
    )
