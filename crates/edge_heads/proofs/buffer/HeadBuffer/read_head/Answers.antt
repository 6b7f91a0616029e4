use Rattle.std.proofs.Common.{◌≡◌, ℕ, ◌≤◌, List, length, take, true, Option, Some, None, refl, sym, ◌∙◌, subst, arith}
use Rattle.std.specs.Prelude.{is_some}
use Rattle.std.proofs.lemmas.Bool.{false≢true}
use Rattle.std.proofs.lemmas.List.{take_all}
use Rattle.edge_heads.specs.declared.heads.HeadFound.{HeadFound}
use Rattle.edge_heads.specs.declared.places.Place.{Place}
use Rattle.edge_heads.specs.declared.values.Side.{Side}
use Rattle.edge_heads.specs.Heads.{IsHeadBegun}
use Rattle.edge_heads.specs.Parsing.{FoundIs, HeadFails}
use Rattle.edge_heads.specs.Places.{IsKnown, Unused}
use Rattle.edge_heads.proofs.buffer.HeadBuffer.read_head.Goals as goal

begun_where_known : (side : Side) (place : Option Place) (bytes : List ℕ) → is_some place ≡ true → IsKnown side place bytes → IsHeadBegun side bytes
begun_where_known side None bytes some known = absurd (false≢true some)
begun_where_known side (Some place) bytes some known = known.0

all_known : (side : Side) (place : Option Place) (bytes : List ℕ) (count : ℕ) → count ≡ length bytes → IsKnown side place bytes → (count ≤ length bytes) × IsKnown side place (take count bytes)
all_known side place bytes count all known = (omega arith, subst (λ (front : List ℕ). IsKnown side place front) (sym (take_all count bytes (omega arith))) known)

pub returns-in-Err : goal.returns-in-Err
returns-in-Err c =
    let why = c.in-Err.why in
    record {
      same = refl;
      found = tt;
      fails = subst (λ (u : Unused). HeadFails u.side u.items why) c.self.view_is
          (subst (λ (bytes : List ℕ). HeadFails c.self.inside.side bytes why) c.as_slice.ensures c.in-Err.ensures.fails);
    }

pub returns-in-Ok-More : goal.returns-in-Ok-More
returns-in-Ok-More c =
    record {
      same = c.self.view_is;
      found = subst (λ (u : Unused). IsHeadBegun u.side u.items) c.self.view_is
          (subst (λ (bytes : List ℕ). IsHeadBegun c.self.inside.side bytes) c.as_slice.ensures
          (subst (λ (found : HeadFound). FoundIs c.self.inside.side c.as_slice.result.now found) c.in-Ok-More.field-0-is c.in-Ok-More.ensures.found));
      fails = tt;
    }

pub returns-in-Ok-Whole : goal.returns-in-Ok-Whole
returns-in-Ok-Whole c =
    record {
      same = refl;
      found = subst (λ (found : HeadFound). FoundIs c.args.self.now.side c.args.self.now.items found) c.in-Ok-Whole.field-0-is
          (subst (λ (u : Unused). FoundIs u.side u.items c.in-Ok-Whole.field-0) c.self.view_is
          (subst (λ (bytes : List ℕ). FoundIs c.self.inside.side bytes c.in-Ok-Whole.field-0) c.as_slice.ensures c.in-Ok-Whole.ensures.found));
      fails = tt;
    }

pub returns-then-is_some : goal.returns-then-is_some
returns-then-is_some c =
    record {
      same = c.self.view_is;
      found = begun_where_known c.args.self.now.side c.place_now-place.result c.args.self.now.items (sym c.is_some.ensures ∙ c.if-is_some.true) c.place_now-place.ensures;
      fails = tt;
    }

pub invariant_of-self : goal.invariant_of-self
invariant_of-self c =
    let inside = c.self.inside in
    let place = c.place_now-place.result in
    all_known inside.side place inside.bytes.items c.len-self-inside.result c.len-self-inside.ensures.value (subst (λ (u : Unused). IsKnown u.side place u.items) (sym c.self.view_is) c.place_now-place.ensures)

pub invariant_of-self-in-Ok-More : goal.invariant_of-self-in-Ok-More
invariant_of-self-in-Ok-More c =
    let inside = c.self.inside in
    let place = c.place_in-self-inside.result in
    all_known inside.side place inside.bytes.items c.len-self-inside-in-Ok-More.result c.len-self-inside-in-Ok-More.ensures.value
    (subst (λ (bytes : List ℕ). IsKnown inside.side place bytes) c.as_slice-in-Ok-More.ensures c.place_in-self-inside.ensures)

pub place_in-self-inside-requires : goal.place_in-self-inside-requires
place_in-self-inside-requires c =
    record {
      begun = subst (λ (bytes : List ℕ). IsHeadBegun c.self.inside.side bytes) (c.as_slice.ensures ∙ sym c.as_slice-in-Ok-More.ensures)
          (subst (λ (found : HeadFound). FoundIs c.self.inside.side c.as_slice.result.now found) c.in-Ok-More.field-0-is c.in-Ok-More.ensures.found);
    }
