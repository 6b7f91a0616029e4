-- Numbers group by group.
use Rattle.std.proofs.Common.{◌≡◌, ℕ, zero, suc, ◌+◌, ◌-◌, ◌*◌, ◌/◌, ◌%◌, ◌<◌, ◌≤◌, ◌^◌, List, [], ◌∷◌, ◌++◌, length, get_or, take, drop, refl, ap, sym, ◌∙◌, subst, arith}
use Rattle.std.specs.Prelude.{Bool, true, false, cond, nat_eq}
use Rattle.std.proofs.lemmas.Bool.Decides.{nat_tests}
use Rattle.std.proofs.Math.Nat.{pow-suc}
use Rattle.message_codec.specs.Varint.{groups_of, varint}
use Rattle.message_codec.proofs.Shortest.{groups-last, groups-more}
use Rattle.message_short.specs.Numbers.{BeginsWith, number_field}
use Rattle.message_short.proofs.Fronts.{rest_is}

power : (n : ℕ) → 128 ^ (n + 1) ≡ 128 ^ n * 128
power n =
    let next : n + 1 ≡ suc n = omega arith in
    ap (λ (m : ℕ). 128 ^ m) next ∙ pow-suc 128 n

some_power : (n : ℕ) → 1 ≤ 128 ^ n
some_power zero = omega arith
some_power (suc n) = omega (arith, pow-suc 128 n, some_power n)

one_byte : (before last : ℕ) (rest : List ℕ) → 0 < last → last < 128 → BeginsWith before (last ∷ rest) last rest
one_byte before last rest some lt = record {
  some = some;
  small = omega (arith, lt, power before, some_power before);
  spelled = λ room le. ap (λ (group : List ℕ). group ++ rest) (sym (groups-last room last lt));
}

more_groups : (room low high : ℕ) (bytes rest : List ℕ) → 128 ≤ low → low < 256 → 0 < high → 1 ≤ room → bytes ≡ groups_of (room - 1) high ++ rest → (low ∷ bytes) ≡ groups_of room (low - 128 + 128 * high) ++ rest
more_groups zero low high bytes rest le lt some room is = absurd (omega (arith, room))
more_groups (suc room) low high bytes rest le lt some _ is =
    let n = low - 128 + 128 * high in
    let first : n % 128 + 128 ≡ low = omega (arith, le, lt) in
    let others : n / 128 ≡ high = omega (arith, le, lt) in
    let groups : groups_of (suc room) n ≡ low ∷ groups_of room high = groups-more room n (omega (arith, some)) ∙ (λ i. first i ∷ groups_of room (others i)) in
    let fewer : suc room - 1 ≡ room = omega arith in
    ap (λ (xs : List ℕ). low ∷ xs) (is ∙ ap (λ (r : ℕ). groups_of r high ++ rest) fewer) ∙ ap (λ (xs : List ℕ). xs ++ rest) (sym groups)

more_bytes : (before low high : ℕ) (bytes rest : List ℕ) → 128 ≤ low → low < 256 → BeginsWith before bytes high rest → BeginsWith (before + 1) (low ∷ bytes) (low - 128 + 128 * high) rest
more_bytes before low high bytes rest le lt b = record {
  some = omega (arith, b.some);
  small = omega (arith, lt, b.small, power (before + 1));
  spelled = λ room many. more_groups room low high bytes rest le lt b.some (omega arith) (b.spelled (room - 1) (omega arith));
}

with_number : (tag : ℕ) (bytes : List ℕ) (number : ℕ) (rest : List ℕ) → BeginsWith 3 bytes number rest → (tag ∷ bytes) ≡ number_field tag number ++ rest
unfolding varint
with_number tag bytes number rest b = either (nat_eq number 0) refl
  where
    either : (zero : Bool) → nat_eq number 0 ≡ zero → (tag ∷ bytes) ≡ cond zero [] (tag ∷ groups_of 9 number) ++ rest
    either true is = absurd (grind (arith, nat_tests, b.some))
    either false is = ap (λ (xs : List ℕ). tag ∷ xs) (b.spelled 9 (omega arith))

-- ---- of bytes whose first one was looked at

abbrev rest_of : List ℕ → List ℕ
rest_of bytes = take (length bytes - 1) (drop 1 bytes)

pub one_at : (before : ℕ) (bytes : List ℕ) (last : ℕ) → 1 ≤ length bytes → last ≡ get_or bytes 0 0 → 0 < get_or bytes 0 0 → get_or bytes 0 0 < 128 → BeginsWith before bytes last (rest_of bytes)
one_at before [] last some is above below = absurd (omega (arith, some))
one_at before (b ∷ bs) last some is above below =
    subst (λ (xs : List ℕ). BeginsWith before (b ∷ bs) last xs) (sym (rest_is b bs)) (subst (λ (n : ℕ). BeginsWith before (b ∷ bs) n bs) (sym is) (one_byte before b bs above below))

pub more_at : (before : ℕ) (bytes : List ℕ) (low high : ℕ) (rest : List ℕ) → 1 ≤ length bytes → 128 ≤ get_or bytes 0 0 → get_or bytes 0 0 < 256 → low ≡ get_or bytes 0 0 - 128
    → BeginsWith before (rest_of bytes) high rest → BeginsWith (before + 1) bytes (low + 128 * high) rest
more_at before [] low high rest some le lt is behind = absurd (omega (arith, some))
more_at before (b ∷ bs) low high rest some le lt is behind =
    let whole = subst (λ (xs : List ℕ). BeginsWith before xs high rest) (rest_is b bs) behind in
    subst (λ (n : ℕ). BeginsWith (before + 1) (b ∷ bs) (n + 128 * high) rest) (sym is) (more_bytes before b high bs rest le lt whole)

pub number_at : (bytes : List ℕ) (tag number : ℕ) (rest : List ℕ) → 1 ≤ length bytes → get_or bytes 0 0 ≡ tag → BeginsWith 3 (rest_of bytes) number rest → bytes ≡ number_field tag number ++ rest
number_at [] tag number rest some is behind = absurd (omega (arith, some))
number_at (b ∷ bs) tag number rest some is behind =
    let whole = subst (λ (xs : List ℕ). BeginsWith 3 xs number rest) (rest_is b bs) behind in
    ap (λ (t : ℕ). t ∷ bs) is ∙ with_number tag bs number rest whole
