-- The numbers that digits write.
use Rattle.std.proofs.Common.{◌≡◌, ◌∙◌, ℕ, ◌+◌, ◌*◌, ◌^◌, ◌<◌, ◌≤◌, Bool, true, List, [], ◌∷◌, ◌++◌, length, take, drop, get_or, ◌&&◌, ◌==◌, not, slice_index, lit<, lit≤, refl, sym, ap, arith}
use Rattle.std.specs.Char.{digit_value, is_ascii_digit}
use Rattle.std.specs.List.{list_all}
use Rattle.std.specs.Str.Parse.{AllDigits, digits_value, digits_value_after}
use Rattle.std.proofs.lemmas.Int.Digits.{digits_value-lt, digits_value_more}
use Rattle.std.proofs.Math.Nat.{pow-le-pow_right, pow-le-pow_left, le-mul_of_pos_right}
use Rattle.std.proofs.lemmas.Bool.{and_parts, and_from, or_left}
use Rattle.std.proofs.lemmas.Bool.Decides.{nat_tests}
use Rattle.std.proofs.lemmas.List.{take-append-drop}
use Rattle.std.specs.Int.{is_in_range}
use Rattle.world_scripts.specs.Words.{is_hex_digit, is_hex_numeral, is_decimal_numeral}

after-append : (radix n : ℕ) (xs ys : List ℕ) → digits_value_after radix n (xs ++ ys) ≡ digits_value_after radix (digits_value_after radix n xs) ys
after-append radix n [] ys = refl
after-append radix n (x ∷ xs) ys = after-append radix (n * radix + digit_value x) xs ys

more_digits : (radix n : ℕ) (ys : List ℕ) → 0 < radix → n ≤ digits_value_after radix n ys
more_digits radix n [] some = omega arith
more_digits radix n (y ∷ ys) some = omega (arith, le-mul_of_pos_right n some, more_digits radix (n * radix + digit_value y) ys some)

-- the digits up to one more write no larger number than all
pub digits_value-le_all : (radix : ℕ) (bs : List ℕ) (i : ℕ) → 0 < radix → i < length bs
    → digits_value radix (take i bs) * radix + digit_value (get_or bs i 0) ≤ digits_value radix bs
digits_value-le_all radix bs i some within =
    let front : digits_value radix (take (i + 1) bs) ≤ digits_value_after radix (digits_value radix (take (i + 1) bs)) (drop (i + 1) bs)
    = more_digits radix (digits_value radix (take (i + 1) bs)) (drop (i + 1) bs) some in
    let whole : digits_value_after radix (digits_value radix (take (i + 1) bs)) (drop (i + 1) bs) ≡ digits_value radix bs
    = sym (after-append radix 0 (take (i + 1) bs) (drop (i + 1) bs)) ∙ ap (digits_value radix) (take-append-drop (i + 1) bs) in
    let step = digits_value_more radix bs i within in
    omega arith

-- one digit more fits, where all do
pub digit_more_fits : (radix number digit i : ℕ) (bs : List ℕ) → 0 < radix → i < length bs → digits_value radix bs < 2 ^ 64
    → number ≡ digits_value radix (take i bs) → digit ≡ digit_value (get_or bs i 0) → number * radix + digit < 2 ^ 64
digit_more_fits radix number digit i bs some within fits is here =
    let below = digits_value-le_all radix bs i some within in
    let product : number * radix ≡ digits_value radix (take i bs) * radix = ap (λ n. n * radix) is in
    omega arith

-- the number with one digit more
pub digit_more : (radix number digit i : ℕ) (bs : List ℕ) → i < length bs
    → number ≡ digits_value radix (take i bs) → digit ≡ digit_value (get_or bs i 0) → number * radix + digit ≡ digits_value radix (take (i + 1) bs)
digit_more radix number digit i bs within is here =
    let more = digits_value_more radix bs i within in
    let product : number * radix ≡ digits_value radix (take i bs) * radix = ap (λ n. n * radix) is in
    omega arith

hex_below : (b : ℕ) → is_hex_digit b ≡ true → digit_value b < 16
hex_below b is = grind (arith, nat_tests)

decimal_below : (b : ℕ) → is_ascii_digit b ≡ true → digit_value b < 10
decimal_below b is = grind (arith, nat_tests)

AllDigits-from_test : (p : ℕ → Bool) (radix : ℕ) → ((b : ℕ) → p b ≡ true → digit_value b < radix) → (bs : List ℕ) → list_all p bs ≡ true → AllDigits radix bs
AllDigits-from_test p radix below [] all = tt
AllDigits-from_test p radix below (b ∷ bs) all =
    let parts = and_parts (p b) (list_all p bs) all in
    (below b parts.0, AllDigits-from_test p radix below bs parts.1)

-- what number_of requires of a word
pub record IsShortNumeral (radix : ℕ) (word : List ℕ) : Type 0 where
  pub digits : list_all is_hex_digit word ≡ true
  pub fits : digits_value radix word < 2 ^ 64

short_numeral : (radix : ℕ) (word : List ℕ) → 0 < radix → radix ≤ 16 → list_all is_hex_digit word ≡ true → AllDigits radix word → length word ≤ 16 → IsShortNumeral radix word
short_numeral radix word some low hex digits short =
    let below = digits_value-lt radix word digits in
    let longest : radix ^ length word ≤ radix ^ 16 = pow-le-pow_right some short in
    let most : radix ^ 16 ≤ 16 ^ 16 = pow-le-pow_left low 16 in
    record { digits = hex; fits = omega arith }

-- 1 to 16 hexadecimal digits write a number of 64 bits
pub hex_numeral : (word : List ℕ) → is_hex_numeral word ≡ true → IsShortNumeral 16 word
hex_numeral word is =
    let parts = and_parts (is_in_range 1 16 (length word)) (list_all is_hex_digit word) is in
    let short : length word ≤ 16 = let range = parts.0 in grind (arith, nat_tests) in
    short_numeral 16 word (lit< tt) (lit≤ tt) parts.1 (AllDigits-from_test is_hex_digit 16 hex_below word parts.1) short

decimal_is_hex : (bs : List ℕ) → list_all is_ascii_digit bs ≡ true → list_all is_hex_digit bs ≡ true
decimal_is_hex [] all = refl
decimal_is_hex (b ∷ bs) all =
    let parts = and_parts (is_ascii_digit b) (list_all is_ascii_digit bs) all in
    and_from (is_hex_digit b) (list_all is_hex_digit bs) (or_left (is_ascii_digit b) (is_in_range 97 102 b) parts.0) (decimal_is_hex bs parts.1)

-- and 1 to 6 decimal digits too
pub decimal_numeral : (word : List ℕ) → is_decimal_numeral word ≡ true → IsShortNumeral 10 word
decimal_numeral word is =
    let parts = and_parts (is_in_range 1 6 (length word) && not (slice_index word 0 == 48)) (list_all is_ascii_digit word) is in
    let range = (and_parts (is_in_range 1 6 (length word)) (not (slice_index word 0 == 48)) parts.0).0 in
    let short : length word ≤ 16 = grind (arith, nat_tests) in
    short_numeral 10 word (lit< tt) (lit≤ tt) (decimal_is_hex word parts.1) (AllDigits-from_test is_ascii_digit 10 decimal_below word parts.1) short
