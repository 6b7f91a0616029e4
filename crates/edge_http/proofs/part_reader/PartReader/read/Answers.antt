use Rattle.std.proofs.Common.{◌≡◌, ap, ◌∙◌, subst}
use Rattle.edge_heads.specs.Places.{Unused}
use Rattle.edge_http.specs.Readers.{ReaderState}
use Rattle.edge_http.specs.Steps.{ReadIs, with_piece}
use Rattle.edge_http.proofs.Feeding.{piece-refused}
use Rattle.edge_http.proofs.part_reader.PartReader.read.Goals as goal

pub returns-in-Err : goal.returns-in-Err
returns-in-Err c =
    let i = c.self.inside in
    let back = c.in-Err.ensures.err in
    let new : ReaderState = record { side = c.extend_from_slice.new.self.side; limit = i.limit; unused = c.extend_from_slice.new.self.items; stage = i.stage; ready = i.ready.items; failure = i.failure } in
    piece-refused c.args.self.now new c.args.piece.now (ap (λ (u : Unused). u.side) back ∙ ap (λ (r : ReaderState). r.side) c.self.view_is) (ap (λ (r : ReaderState). r.limit) c.self.view_is)
    (ap (λ (r : ReaderState). r.failure) c.self.view_is) (ap (λ (r : ReaderState). r.ready) c.self.view_is)

pub returns-in-Ok : goal.returns-in-Ok
returns-in-Ok c =
    let i = c.self.inside in
    let piece = c.args.piece.now in
    let put = c.in-Ok.ensures.ok in
    let mid : ReaderState = record { side = c.extend_from_slice.new.self.side; limit = i.limit; unused = c.extend_from_slice.new.self.items; stage = i.stage; ready = i.ready.items; failure = i.failure } in
    let grown : mid ≡ with_piece (record { side = i.unused.side; limit = i.limit; unused = i.unused.items; stage = i.stage; ready = i.ready.items; failure = i.failure }) piece =
    (λ t. record { side = (put t).side; limit = i.limit; unused = (put t).items; stage = i.stage; ready = i.ready.items; failure = i.failure }) in
    let e : mid ≡ with_piece c.args.self.now piece = grown ∙ ap (λ (r : ReaderState). with_piece r piece) c.self.view_is in
    subst (λ (s : ReaderState). ReadIs s c.run.new.self c.run.result) e c.run.ensures
