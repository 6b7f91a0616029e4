-- What a log of entries makes of a part.
use Rattle.std.specs.Prelude.{◌≡◌, ℕ, zero, suc, ◌+◌, Bool, ◌&&◌, List, [], ◌∷◌, ◌++◌, length, Option, Some, None, ◌==◌, nat_le, if◌then◌else◌}
use Rattle.std.specs.Int.{w32, from_le_bytes, to_le_bytes}
use Rattle.agent_store.specs.Codecs.{Codec}

-- the n bytes from a place on
unfoldable pub bytes_at : (ℕ → ℕ) → ℕ → ℕ → List ℕ
bytes_at image at zero = []
bytes_at image at (suc n) = bytes_at image at n ++ image (at + n) ∷ []

-- a part and the place of its next entry, or nothing where an entry is not right
pub data Standing : Type 0 where
  Ends : List ℕ → ℕ → Standing
  Broken : Standing

abbrev pub if_some : Option (List ℕ) → (List ℕ → Standing) → Standing
if_some None rest = Broken
if_some (Some part) rest = rest part

-- there is an open entry here, before this end of the log
abbrev pub is_entry : (ℕ → ℕ) → ℕ → ℕ → Bool
is_entry image stop at = nat_le (at + 6) stop && (image at == 1)

-- the length of its change
unfoldable pub size_at : (ℕ → ℕ) → ℕ → ℕ
size_at image at = from_le_bytes w32 (bytes_at image (at + 1) 4)

-- where the entry ends
abbrev pub entry_stop : (ℕ → ℕ) → ℕ → ℕ
entry_stop image at = at + 5 + size_at image at

abbrev pub change_at : (ℕ → ℕ) → ℕ → List ℕ
change_at image at = bytes_at image (at + 5) (size_at image at)

-- an entry's change is this
pub record IsChange (image : ℕ → ℕ) (at : ℕ) (fields : List ℕ) : Type 0 where
  pub size : size_at image at ≡ length fields
  pub bytes : change_at image at ≡ fields

-- the part with the entries from a place on applied in order, by at most so many steps
unfoldable pub replay : Codec → (ℕ → ℕ) → ℕ → ℕ → ℕ → List ℕ → Standing
replay codec image stop zero at part = Ends part at
replay codec image stop (suc steps) at part =
    if is_entry image stop at
    then (if nat_le (entry_stop image at) stop then if_some (codec.changed part (change_at image at)) (λ next. replay codec image stop steps (entry_stop image at) next) else Broken)
    else Ends part at

-- an entry's bytes behind its gate, and a closed gate for the next
unfoldable pub entry_bytes : List ℕ → List ℕ
entry_bytes fields = to_le_bytes w32 (length fields) ++ (fields ++ 0 ∷ [])
