use Rattle.std.proofs.Common.{◌≡◌, ℕ, List, ◌++◌, sym, ap, ◌∙◌, subst, arith, length, drop, ◌≤◌, refl}
use Rattle.httparse.specs.Ascii.{crlf_bytes}
use Rattle.edge_heads.specs.declared.values.HttpFail.TheVariants.{BadChunk}
use Rattle.edge_http.specs.declared.messages.Stage.TheVariants as stage
use Rattle.edge_heads.specs.Bodies.{IsEndBegun, NeverEnds}
use Rattle.edge_http.specs.Readers.{ReaderState}
use Rattle.edge_http.proofs.Ends.{ending_failed}
use Rattle.edge_http.proofs.Moving.{moves-still, waits-at, stops, makes-none, moved-ending, same-makes, fewer}
use Rattle.edge_http.proofs.part_reader.PartReader.take_ending.Goals as goal

pub returns-in-More : goal.returns-in-More
returns-in-More c =
    let old = c.args.self.now in
    let u = c.as_slice.ensures.value ∙ sym (ap (λ (r : ReaderState). r.unused) (sym c.self.view_is)) in
    (moves-still old, waits-at old (stage.Ending c.args.sum) c.requires.at (subst IsEndBegun u c.in-More.ensures.found))

pub returns-in-Bad : goal.returns-in-Bad
returns-in-Bad c =
    let old = c.args.self.now in
    let u = c.as_slice.ensures.value ∙ sym (ap (λ (r : ReaderState). r.unused) (sym c.self.view_is)) in
    stops old old BadChunk (stage.Ending c.args.sum) (makes-none old) c.requires.at
    (λ bytes whole v s. ending_failed old.side old.limit c.args.sum old.unused bytes whole v s (subst NeverEnds u c.in-Bad.ensures.found))

pub returns-in-Whole : goal.returns-in-Whole
returns-in-Whole c =
    let old = c.args.self.now in
    let mine = ap (λ (r : ReaderState). r.unused) (sym c.self.view_is) in
    let u = c.as_slice.ensures.value ∙ sym mine in
    let two : c.in-Whole.len ≡ 2 = c.in-Whole.ensures.found.0 in
    let least : 2 ≤ length old.unused = subst (λ (t : List ℕ). 2 ≤ length t) u c.in-Whole.ensures.found.1 in
    let parts : old.unused ≡ crlf_bytes ++ drop 2 old.unused = subst (λ (t : List ℕ). t ≡ crlf_bytes ++ drop 2 t) u c.in-Whole.ensures.found.2 in
    let rest : c.advance.new.self.items ≡ drop 2 old.unused = c.advance.ensures.items ∙ (λ i. drop (two i) (sym mine i)) in (
      moved-ending old _ c.args.sum c.requires.at parts (same-makes old _ _ _ _ (sym c.self.view_is) c.advance.ensures.side) rest refl,
      fewer old.unused c.advance.new.self.items 2 (omega arith) least rest,
    )
