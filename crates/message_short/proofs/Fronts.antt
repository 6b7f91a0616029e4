-- Bytes and what stands at their front.
use Rattle.std.proofs.Common.{◌≡◌, ℕ, ◌+◌, ◌-◌, ◌≤◌, List, [], ◌∷◌, ◌++◌, length, get_or, take, drop, refl, ap, sym, ◌∙◌, arith}
use Rattle.std.proofs.lemmas.List.{take-append-drop, length-take-le}
use Rattle.std.proofs.Math.Seq.{take-length}

take_whole : (xs : List ℕ) (n : ℕ) → n ≡ length xs → take n xs ≡ xs
take_whole xs n is = ap (λ (m : ℕ). take m xs) is ∙ take-length xs

-- all but the first byte
pub rest_is : (b : ℕ) (bs : List ℕ) → take (length (b ∷ bs) - 1) (drop 1 (b ∷ bs)) ≡ bs
rest_is b bs = take_whole bs (length (b ∷ bs) - 1) (omega arith)

-- so many bytes at the front, and what is behind them
pub parts_are : (bytes front behind : List ℕ) (n : ℕ) → front ≡ take n bytes → behind ≡ drop n bytes → bytes ≡ front ++ behind
parts_are bytes front behind n at after = sym (take-append-drop n bytes) ∙ (λ i. sym at i ++ sym after i)

pub front_has : (bytes front behind : List ℕ) (n : ℕ) → front ≡ take n bytes → length behind + n ≡ length bytes → length front ≡ n
front_has bytes front behind n at all = ap length at ∙ length-take-le n bytes (omega (arith, all))

pub first_two : (bytes : List ℕ) → 2 ≤ length bytes → bytes ≡ get_or bytes 0 0 ∷ get_or bytes 1 0 ∷ take (length bytes - 2) (drop 2 bytes)
first_two [] some = absurd (omega (arith, some))
first_two (a ∷ []) some = absurd (omega (arith, some))
first_two (a ∷ b ∷ bs) some = ap (λ (xs : List ℕ). a ∷ b ∷ xs) (sym (take_whole bs (length (a ∷ b ∷ bs) - 2) (omega arith)))

-- ---- bytes of a known number

pub of_none : (bytes : List ℕ) → length bytes ≡ 0 → bytes ≡ []
of_none [] none = refl
of_none (a ∷ bs) none = absurd (omega (arith, none))

pub of_two : (bytes : List ℕ) → length bytes ≡ 2 → bytes ≡ get_or bytes 0 0 ∷ get_or bytes 1 0 ∷ []
of_two [] two = absurd (omega (arith, two))
of_two (a ∷ []) two = absurd (omega (arith, two))
of_two (a ∷ b ∷ []) two = refl
of_two (a ∷ b ∷ c ∷ bs) two = absurd (omega (arith, two))

pub of_four : (bytes : List ℕ) → length bytes ≡ 4 → bytes ≡ get_or bytes 0 0 ∷ get_or bytes 1 0 ∷ get_or bytes 2 0 ∷ get_or bytes 3 0 ∷ []
of_four [] four = absurd (omega (arith, four))
of_four (a ∷ []) four = absurd (omega (arith, four))
of_four (a ∷ b ∷ []) four = absurd (omega (arith, four))
of_four (a ∷ b ∷ c ∷ []) four = absurd (omega (arith, four))
of_four (a ∷ b ∷ c ∷ d ∷ []) four = refl
of_four (a ∷ b ∷ c ∷ d ∷ e ∷ bs) four = absurd (omega (arith, four))
