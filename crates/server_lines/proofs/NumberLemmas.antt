-- Decimal numbers, by what `parse` gives.
use Rattle.std.proofs.Common.{◌≡◌, ℕ, ◌^◌, ◌<◌, true, false, List, length, refl, arith, rules}
use Rattle.std.specs.Prelude.{None, nat_lt}
use Rattle.std.specs.Char.{is_ascii_digit}
use Rattle.std.specs.Int.{is_in_range}
use Rattle.std.specs.List.{list_all}
use Rattle.std.specs.Str.Parse.{digits_value}
use Rattle.std.proofs.lemmas.Bool.{and_parts}
use Rattle.std.proofs.lemmas.Bool.Decides.{nat_tests}
use Rattle.std.proofs.lemmas.Str.Parse.{IsNumeralModel, IsDigitsTest, numerals_by_value}
use Rattle.server_lines.specs.Words.{is_numeral, number_in}

tells_digits : IsDigitsTest (λ ds. list_all is_ascii_digit ds ≡ true)
tells_digits = search rules

pub digits : IsNumeralModel (λ ds. list_all is_ascii_digit ds ≡ true) (digits_value 10)
digits = numerals_by_value (λ ds. list_all is_ascii_digit ds ≡ true) tells_digits

pub are_digits : (word : List ℕ) → is_numeral word ≡ true → list_all is_ascii_digit word ≡ true
are_digits word is = (and_parts (is_in_range 1 20 (length word)) (list_all is_ascii_digit word) is).1

not_empty : (word : List ℕ) → is_numeral word ≡ true → 0 < length word
not_empty word is =
    let range = (and_parts (is_in_range 1 20 (length word)) (list_all is_ascii_digit word) is).0 in
    grind (arith, nat_tests)

not_below : (n m : ℕ) → ((n < m) → ⊥) → nat_lt n m ≡ false
not_below n m not = grind (arith, nat_tests)

pub too_large : (word : List ℕ) → is_numeral word ≡ true
    → (((0 < length word) × (digits_value 10 word < 2 ^ 64)) → ⊥) → None ≡ number_in word
unfolding number_in
too_large word is not =
    let above = not_below (digits_value 10 word) (2 ^ 64) (λ below. not (not_empty word is, below)) in
    rw (is, above) refl
