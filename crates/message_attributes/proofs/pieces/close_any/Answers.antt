use Rattle.std.proofs.Common.{ℕ, refl, inl, inr}
use Rattle.message_codec.specs.Tables as tables
use Rattle.message_attributes.proofs.AnyLaws.{any_array, any_pairs}
use Rattle.message_attributes.proofs.PartLaws.{any_parts, Among}
use Rattle.message_attributes.proofs.pieces.close_any.Goals as goal

other : (number : ℕ) → Among number 6 tables.ArrayValue tables.KeyValueList → ⊥
other number a = let e = a.name_is in cc

another : (number : ℕ) → Among number 5 tables.KeyValueList tables.ArrayValue → ⊥
another number a = let e = a.name_is in cc

pub returns-in-Array : goal.returns-in-Array
returns-in-Array c =
    let h = rw c.in-Array.is at c.requires.part in
    record {
      closes = elim (any_parts c.args.number tables.ArrayValue h) [
        | inl a ↦ rw (a.number_is, c.in-Array.is, any_array c.in-Array.values) refl
        | inr a ↦ absurd (other c.args.number a)
      ];
    }

pub returns-in-Pairs : goal.returns-in-Pairs
returns-in-Pairs c =
    let h = rw c.in-Pairs.is at c.requires.part in
    record {
      closes = elim (any_parts c.args.number tables.KeyValueList h) [
        | inl a ↦ absurd (another c.args.number a)
        | inr a ↦ rw (a.number_is, c.in-Pairs.is, any_pairs c.in-Pairs.pairs) refl
      ];
    }
