use Rattle.std.proofs.Common.{◌≡◌, ◌≢◌, [], ◌∷◌, ap, ◌∙◌, arith, ◌<◌, ◌≤◌, inl, inr}
use Rattle.edge_heads.specs.declared.values.HttpFail.TheVariants.{BadHead, NoLength, BodyTooLarge}
use Rattle.edge_heads.specs.declared.values.BodyForm.TheVariants.{Sized}
use Rattle.edge_http.specs.declared.messages.Part.TheVariants as part
use Rattle.edge_http.specs.declared.messages.Stage.TheVariants as stage
use Rattle.edge_http.specs.Readers.{ReaderState}
use Rattle.edge_http.proofs.Ends.{wrong_failed, missing_failed, large_failed}
use Rattle.edge_http.proofs.Moving.{stops, stops-memory, stops-more, whole-head, makes-none, makes-same, moved-sized, moved-chunked, moved-empty, fewer}
use Rattle.edge_http.proofs.part_reader.PartReader.begin_message.Goals as goal

pub returns-in-Wrong : goal.returns-in-Wrong
returns-in-Wrong c =
    let old = c.args.self.now in
    stops old old BadHead stage.Head (makes-none old) c.requires.at
    (λ bytes whole v s. wrong_failed old.side old.limit old.unused bytes whole v c.args.head c.args.form c.args.len c.requires.found c.in-Wrong.is s)

pub returns-in-Missing : goal.returns-in-Missing
returns-in-Missing c =
    let old = c.args.self.now in
    stops old old NoLength stage.Head (makes-none old) c.requires.at
    (λ bytes whole v s. missing_failed old.side old.limit old.unused bytes whole v c.args.head c.args.form c.args.len c.requires.found c.in-Missing.is s)

pub returns-then-size-self : goal.returns-then-size-self
returns-then-size-self c =
    let old = c.args.self.now in
    let size = c.in-Sized.size in
    let limit_is : c.self.inside.limit ≡ old.limit = ap (λ (r : ReaderState). r.limit) c.self.view_is in
    let above : c.self.inside.limit < size = c.if-size-self.true in
    let large : old.limit < size = omega arith in
    stops old old BodyTooLarge stage.Head (makes-none old) c.requires.at
    (λ bytes whole v s. large_failed old.side old.limit size old.unused bytes whole v c.args.head c.args.form c.args.len c.requires.found c.in-Sized.is large s)

pub returns-in-Err-begin_empty : goal.returns-in-Err-begin_empty
returns-in-Err-begin_empty c =
    let old = c.args.self.now in
    let new = c.begin_empty.new.self in
    let why = c.in-Err-begin_empty.why in
    let e = c.in-Err-begin_empty.ensures.no_memory in
    elim e.1 [
      | inl none ↦ stops-memory old new why none e.0
      | inr head ↦ stops-more old new why (part.Head c.args.head ∷ []) head (whole-head c.args.head) e.0
    ]

pub returns-in-Ok-begin_empty : goal.returns-in-Ok-begin_empty
returns-in-Ok-begin_empty c =
    let old = c.args.self.now in
    let new = c.begin_empty.new.self in
    let made = c.in-Ok-begin_empty.ensures.made in
    let form : c.args.form ≡ Sized 0 = c.in-Sized.is ∙ ap Sized c.if-size-eq0.true in (
      moved-empty old new c.args.head c.args.form c.args.len c.requires.at c.requires.found form made.0 made.1 made.2,
      fewer old.unused new.unused c.args.len c.requires.found.some c.requires.found.within made.1,
    )

pub returns-in-Err : goal.returns-in-Err
returns-in-Err c =
    stops-memory c.args.self.now c.begin.new.self c.in-Err.why (makes-same c.args.self.now c.begin.new.self c.in-Err.ensures.no_memory.1) c.in-Err.ensures.no_memory.0

pub returns-in-Ok : goal.returns-in-Ok
returns-in-Ok c =
    let old = c.args.self.now in
    let new = c.begin.new.self in
    let made = c.in-Ok.ensures.made in (
      moved-chunked old new c.args.head c.args.form c.args.len c.requires.at c.requires.found c.in-Chunked.is made.0 made.1 made.2,
      fewer old.unused new.unused c.args.len c.requires.found.some c.requires.found.within made.1,
    )

pub returns-in-Err-begin : goal.returns-in-Err-begin
returns-in-Err-begin c =
    stops-memory c.args.self.now c.begin-in-Sized.new.self c.in-Err-begin.why (makes-same c.args.self.now c.begin-in-Sized.new.self c.in-Err-begin.ensures.no_memory.1) c.in-Err-begin.ensures.no_memory.0

pub returns-in-Ok-begin : goal.returns-in-Ok-begin
returns-in-Ok-begin c =
    let old = c.args.self.now in
    let new = c.begin-in-Sized.new.self in
    let size = c.in-Sized.size in
    let made = c.in-Ok-begin.ensures.made in
    let limit_is : c.self.inside.limit ≡ old.limit = ap (λ (r : ReaderState). r.limit) c.self.view_is in
    let below : size ≤ c.self.inside.limit = c.if-size-self.false in
    let ne : size ≢ 0 = c.if-size-eq0.false in
    let some : 0 < size = omega arith in
    let within : size ≤ old.limit = omega arith in (
      moved-sized old new c.args.head c.args.form c.args.len size c.requires.at c.requires.found c.in-Sized.is within some made.0 made.1 made.2,
      fewer old.unused new.unused c.args.len c.requires.found.some c.requires.found.within made.1,
    )
