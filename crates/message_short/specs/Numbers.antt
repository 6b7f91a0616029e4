-- Numbers in their shortest spelling (Protocol Buffers encoding guide, "Base 128 Varints").
use Rattle.std.specs.Prelude.{◌≡◌, ℕ, ◌+◌, ◌<◌, ◌≤◌, ◌^◌, List, [], ◌∷◌, ◌++◌, cond, nat_eq}
use Rattle.message_codec.specs.Varint.{groups_of, varint}

-- A number above 0 of so many groups at most before its last one stands at the front, and the rest behind it.
pub record BeginsWith (before : ℕ) (bytes : List ℕ) (number : ℕ) (rest : List ℕ) : Type 0 where
  pub some : 0 < number
  pub small : number < 128 ^ (before + 1)
  pub spelled : (room : ℕ) → before ≤ room → bytes ≡ groups_of room number ++ rest

-- The field with this tag that holds a number, which is left out where it is 0 (encoding guide, "Optional and Repeated Elements").
abbrev pub number_field : ℕ → ℕ → List ℕ
number_field tag number = cond (nat_eq number 0) [] (tag ∷ varint number)
