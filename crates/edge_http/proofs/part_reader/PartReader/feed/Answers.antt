use Rattle.std.proofs.Common.{[], ◌++◌, sym, ap, refl, ◌∙◌, subst, Some, append-nil}
use Rattle.edge_http.specs.Readers.{ReaderState}
use Rattle.edge_http.specs.Steps.{Stops, with_piece}
use Rattle.edge_http.proofs.Feeding.{fed, fed-failed, failed-before, answered}
use Rattle.edge_http.proofs.part_reader.PartReader.feed.Goals as goal

pub returns-in-Some-clause-read : goal.returns-in-Some-clause-read
returns-in-Some-clause-read c bytes taken x =
    failed-before c.args.self.now c.args.piece.now bytes taken c.in-Some.failure (sym (ap (λ (r : ReaderState). r.failure) c.self.view_is) ∙ c.in-Some.is) x

pub returns-in-Ok-clause-read : goal.returns-in-Ok-clause-read
returns-in-Ok-clause-read c bytes taken x =
    let none = sym (ap (λ (r : ReaderState). r.failure) c.self.view_is) ∙ c.in_default.is in
    fed c.args.self.now c.read.new.self c.args.piece.now bytes taken none c.in-Ok.ensures.0 c.in-Ok.ensures.1 x

pub returns-in-Err-clause-read : goal.returns-in-Err-clause-read
returns-in-Err-clause-read c bytes taken x =
    let old = c.args.self.now in
    let none = sym (ap (λ (r : ReaderState). r.failure) c.self.view_is) ∙ c.in_default.is in
    fed-failed old _ c.args.piece.now bytes taken c.in-Err.failure none
    (subst (λ (m : ReaderState). Stops (with_piece old c.args.piece.now) m c.in-Err.failure) (sym c.self-2.view_is) c.in-Err.ensures) x

pub returns-in-Some-clause-exact : goal.returns-in-Some-clause-exact
returns-in-Some-clause-exact c bytes taken x = answered _ (bytes ++ c.args.piece.now) taken _ refl (returns-in-Some-clause-read c bytes taken x)

pub returns-in-Ok-clause-exact : goal.returns-in-Ok-clause-exact
returns-in-Ok-clause-exact c bytes taken x = answered _ (bytes ++ c.args.piece.now) taken _ refl (returns-in-Ok-clause-read c bytes taken x)

pub returns-in-Err-clause-exact : goal.returns-in-Err-clause-exact
returns-in-Err-clause-exact c bytes taken x =
    let i = c.self-2.inside in
    let r : ReaderState = record { side = i.unused.side; limit = i.limit; unused = i.unused.items; stage = i.stage; ready = i.ready.items; failure = Some c.in-Err.failure } in
    answered r (bytes ++ c.args.piece.now) taken r.failure refl (returns-in-Err-clause-read c bytes taken x)

pub returns-in-Some-clause-kept : goal.returns-in-Some-clause-kept
returns-in-Some-clause-kept c = ([], sym (append-nil c.args.self.now.ready))

pub returns-in-Ok-clause-kept : goal.returns-in-Ok-clause-kept
returns-in-Ok-clause-kept c = (c.in-Ok.ensures.0.more, c.in-Ok.ensures.0.makes.ready)

pub returns-in-Err-clause-kept : goal.returns-in-Err-clause-kept
returns-in-Err-clause-kept c = (c.in-Err.ensures.more, ap (λ (r : ReaderState). r.ready) c.self-2.view_is ∙ c.in-Err.ensures.makes.ready)
