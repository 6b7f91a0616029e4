-- The first line of bytes.
use Rattle.std.proofs.Common.{◌≡◌, ℕ, ◌<◌, false, List, [], ◌∷◌, ◌++◌, length, eqb, refl, arith}
use Rattle.std.proofs.lemmas.List.Elements.{All-head, All-tail}
use Rattle.world_scripts.specs.Cuts.{IsFree, lines_in}

-- what stands before the first line feed is the first line
pub lines_in-cut : (line rest : List ℕ) → IsFree 10 line → lines_in (line ++ 10 ∷ rest) ≡ line ∷ lines_in rest
lines_in-cut [] rest free = refl
lines_in-cut (b ∷ line) rest free =
    let other : eqb b 10 ≡ false = All-head (λ x. eqb x 10 ≡ false) b line free in
    rw (other, lines_in-cut line rest (All-tail (λ x. eqb x 10 ≡ false) b line free)) refl

-- bytes without a line feed are one line
pub lines_in-free : (line : List ℕ) → IsFree 10 line → 0 < length line → lines_in line ≡ line ∷ []
lines_in-free [] free some = absurd (omega arith)
lines_in-free (b ∷ []) free some =
    let other : eqb b 10 ≡ false = All-head (λ x. eqb x 10 ≡ false) b [] free in
    rw other refl
lines_in-free (b ∷ c ∷ line) free some =
    let other : eqb b 10 ≡ false = All-head (λ x. eqb x 10 ≡ false) b (c ∷ line) free in
    rw (other, lines_in-free (c ∷ line) (All-tail (λ x. eqb x 10 ≡ false) b (c ∷ line) free) (omega arith)) refl
