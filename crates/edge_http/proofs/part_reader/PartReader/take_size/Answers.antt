use Rattle.std.proofs.Common.{◌≡◌, ◌≢◌, ℕ, ◌+◌, ◌-◌, List, sym, ap, ◌∙◌, subst, arith, drop, ◌<◌, ◌≤◌}
use Rattle.edge_heads.specs.declared.values.HttpFail.TheVariants.{BadChunk, BodyTooLarge}
use Rattle.edge_http.specs.declared.messages.Stage.{Stage}
use Rattle.edge_http.specs.declared.messages.Stage.TheVariants as stage
use Rattle.edge_heads.specs.Bodies.{IsSizeBegun, IsNoSize}
use Rattle.edge_heads.specs.Finds.{IsSizeFound}
use Rattle.edge_http.specs.Steps.{StageFits}
use Rattle.edge_http.specs.Readers.{ReaderState}
use Rattle.edge_http.proofs.Ends.{size_failed, sum_failed}
use Rattle.edge_http.proofs.Moving.{moves-still, waits-at, stops, makes-none, moved-size, moved-last, same-makes, fewer}
use Rattle.edge_http.proofs.part_reader.PartReader.take_size.Goals as goal
use Rattle.edge_http.proofs.part_reader.PartReader.take_size.Goals.{then-size-eq0, else-size-eq0}

pub returns-in-More : goal.returns-in-More
returns-in-More c =
    let old = c.args.self.now in
    let u = c.as_slice.ensures.value ∙ sym (ap (λ (r : ReaderState). r.unused) (sym c.self.view_is)) in
    (moves-still old, waits-at old (stage.Size c.args.sum) c.requires.at (subst IsSizeBegun u c.in-More.ensures.found))

pub returns-in-Bad : goal.returns-in-Bad
returns-in-Bad c =
    let old = c.args.self.now in
    let u = c.as_slice.ensures.value ∙ sym (ap (λ (r : ReaderState). r.unused) (sym c.self.view_is)) in
    stops old old BadChunk (stage.Size c.args.sum) (makes-none old) c.requires.at
    (λ bytes whole v s. size_failed old.side old.limit c.args.sum old.unused bytes whole v s (subst IsNoSize u c.in-Bad.ensures.found))

pub returns-then-size-self : goal.returns-then-size-self
returns-then-size-self c =
    let old = c.args.self.now in
    let sum = c.args.sum in
    let u = c.as_slice.ensures.value ∙ sym (ap (λ (r : ReaderState). r.unused) (sym c.self.view_is)) in
    let limit_is : old.limit ≡ c.self.inside.limit = ap (λ (r : ReaderState). r.limit) (sym c.self.view_is) in
    let fits : sum ≤ c.self.inside.limit = subst (λ (s : Stage). StageFits c.self.inside.limit s) (sym (ap (λ (r : ReaderState). r.stage) (sym c.self.view_is)) ∙ c.requires.at) c.self.invariant.1 in
    let above : c.self.inside.limit - sum < c.in-Whole.size = c.if-size-self.true in
    let large : old.limit < sum + c.in-Whole.size = omega arith in
    stops old old BodyTooLarge (stage.Size sum) (makes-none old) c.requires.at
    (λ bytes whole v s. sum_failed old.side old.limit sum c.in-Whole.len c.in-Whole.size old.unused bytes whole v s
    (subst (λ (t : List ℕ). IsSizeFound t c.in-Whole.len c.in-Whole.size) u c.in-Whole.ensures.found) large)

pub returns-after-size-eq0 : goal.returns-after-size-eq0
returns-after-size-eq0 c =
    let old = c.args.self.now in
    let sum = c.args.sum in
    let len = c.in-Whole.len in
    let size = c.in-Whole.size in
    let mine = ap (λ (r : ReaderState). r.unused) (sym c.self.view_is) in
    let u = c.as_slice.ensures.value ∙ sym mine in
    let limit_is : old.limit ≡ c.self.inside.limit = ap (λ (r : ReaderState). r.limit) (sym c.self.view_is) in
    let fits : sum ≤ c.self.inside.limit = subst (λ (s : Stage). StageFits c.self.inside.limit s) (sym (ap (λ (r : ReaderState). r.stage) (sym c.self.view_is)) ∙ c.requires.at) c.self.invariant.1 in
    let below : size ≤ c.self.inside.limit - sum = c.if-size-self.false in
    let found : IsSizeFound old.unused len size = subst (λ (t : List ℕ). IsSizeFound t len size) u c.in-Whole.ensures.found in
    let rest : c.advance.new.self.items ≡ drop len old.unused = c.advance.ensures.items ∙ ap (λ (t : List ℕ). drop len t) (sym mine) in (
      elim c.if-size-eq0.branch [
        | then-size-eq0 w ↦ moved-last old _ sum len size c.requires.at found w.if-size-eq0.true (same-makes old _ _ _ _ (sym c.self.view_is) c.advance.ensures.side) rest w.self-is
        | else-size-eq0 w ↦
            let ne : size ≢ 0 = w.if-size-eq0.false in
            let some : 0 < size = omega arith in
            let within : sum + size ≤ old.limit = omega arith in
            moved-size old _ sum len size c.requires.at found some within (same-makes old _ _ _ _ (sym c.self.view_is) c.advance.ensures.side) rest w.self-is
      ],
      fewer old.unused c.advance.new.self.items len found.some found.within rest,
    )
