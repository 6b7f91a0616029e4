-- What bytes mean to a store: payloads, and the changes from one to the next. A value is told by its canonical bytes.
use Rattle.std.specs.Prelude.{◌≡◌, ℕ, List, Option, Some}

-- the canonical bytes of the value that a payload means, or none where it isn't right; the change that leads from one value to the next; and the
-- canonical bytes of the value that a change leads to, or none
pub record Codec : Type 0 where
  pub meaning : List ℕ → Option (List ℕ)
  pub change : List ℕ → List ℕ → List ℕ
  pub changed : List ℕ → List ℕ → Option (List ℕ)

-- These are the canonical bytes of a value that may be saved: they mean themselves.
abbrev pub IsRight : Codec → List ℕ → Type 0
IsRight codec bytes = codec.meaning bytes ≡ Some bytes
