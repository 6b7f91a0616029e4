use Rattle.std.proofs.Common.{◌≡◌, sym, ap, ◌∙◌, subst}
use Rattle.edge_heads.specs.declared.heads.HeadFound.{HeadFound}
use Rattle.edge_heads.specs.Heads.{IsHeadBegun}
use Rattle.edge_heads.specs.Parsing.{IsHeadFound, FoundIs, HeadFails}
use Rattle.edge_heads.specs.Places.{Unused}
use Rattle.edge_http.specs.declared.messages.Stage.TheVariants as stage
use Rattle.edge_http.specs.Readers.{ReaderState}
use Rattle.edge_http.specs.Steps.{Moves, Waits, Stops}
use Rattle.edge_http.proofs.Ends.{head_failed}
use Rattle.edge_http.proofs.Moving.{moves-still, waits-at, stops, makes-none}
use Rattle.edge_http.proofs.part_reader.PartReader.take_head.Goals as goal

pub returns-in-Err : goal.returns-in-Err
returns-in-Err c =
    let old = c.args.self.now in
    let i = c.self.inside in
    let at : Unused → ReaderState = λ u. record { side = u.side; limit = i.limit; unused = u.items; stage = i.stage; ready = i.ready.items; failure = i.failure } in
    let same : at c.read_head.new.self ≡ old = ap at c.in-Err.ensures.same ∙ c.self.view_is in
    let fails : HeadFails old.side old.unused c.in-Err.why = subst (λ (r : ReaderState). HeadFails r.side r.unused c.in-Err.why) c.self.view_is c.in-Err.ensures.fails in
    let still : Stops old old c.in-Err.why =
    stops old old c.in-Err.why stage.Head (makes-none old) c.requires.at (λ bytes whole v s. head_failed old.side old.limit old.unused bytes whole v c.in-Err.why s fails) in
    subst (λ (r : ReaderState). Stops old r c.in-Err.why) (sym same) still

pub returns-in-Ok-More : goal.returns-in-Ok-More
returns-in-Ok-More c =
    let old = c.args.self.now in
    let i = c.self.inside in
    let at : Unused → ReaderState = λ u. record { side = u.side; limit = i.limit; unused = u.items; stage = i.stage; ready = i.ready.items; failure = i.failure } in
    let same : at c.read_head.new.self ≡ old = ap at c.in-Ok-More.ensures.same ∙ c.self.view_is in
    let here : IsHeadBegun i.unused.side i.unused.items =
    subst (λ (f : HeadFound). FoundIs i.unused.side i.unused.items f) c.in-Ok-More.field-0-is c.in-Ok-More.ensures.found in
    let begun : IsHeadBegun old.side old.unused = subst (λ (r : ReaderState). IsHeadBegun r.side r.unused) c.self.view_is here in
    subst (λ (r : ReaderState). Moves old r × Waits r.side r.stage r.unused) (sym same) (moves-still old, waits-at old stage.Head c.requires.at begun)

pub begin_message-requires-clause-found : goal.begin_message-requires-clause-found
begin_message-requires-clause-found c =
    let head = c.in-Ok-Whole.head in
    let form = c.in-Ok-Whole.form in
    let len = c.in-Ok-Whole.len in
    let u = c.self.inside.unused in
    let told : IsHeadFound u.side u.items head form len = subst (λ (f : HeadFound). FoundIs u.side u.items f) c.in-Ok-Whole.field-0-is c.in-Ok-Whole.ensures.found in
    subst (λ (v : Unused). IsHeadFound v.side v.items head form len) (sym c.in-Ok-Whole.ensures.same) told
