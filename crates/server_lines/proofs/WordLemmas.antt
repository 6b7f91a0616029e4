-- The two halves of a word.
use Rattle.std.proofs.Common.{◌≡◌, ◌<◌, ◌∙◌, sym, ap, subst, ℕ, List, Bool, length, Option, None, Some, Bor, eqb, true, false, refl, arith}
use Rattle.std.specs.Prelude.{IsUtf8, nat_lt, MatchOption}
use Rattle.std.specs.List.{position_or_len, before_first, after_first}
use Rattle.std.specs.Option.{option_map}
use Rattle.std.specs.Str.{is_utf8}
use Rattle.std.proofs.lemmas.Str.{IsUtf8-from_is_utf8, is_utf8-from_IsUtf8}
use Rattle.std.proofs.lemmas.Bool.Decides.{nat_tests}
use Rattle.std.proofs.lemmas.Str.Pattern.{IsSplitOnceResult, split_once_first}
use Rattle.server_lines.specs.Words.{bytes_in, parts_at, value_in}

not_before : (n : ℕ) (len : ℕ) → n ≡ len → nat_lt n len ≡ false
not_before n len is = grind (arith, nat_tests)

is_before : (n : ℕ) (len : ℕ) → n < len → nat_lt n len ≡ true
is_before n len is = grind (arith, nat_tests)

pub parts_are : (mark : ℕ) (word : List ℕ) (r : Option (Bor (List ℕ) × Bor (List ℕ))) → mark < 128 → IsSplitOnceResult mark word r
    → option_map (λ p. (p.0.now, p.1.now)) r ≡ parts_at mark word
parts_are mark word r small cuts = by_result r (split_once_first mark word r cuts small)
  where
    by_result : (o : Option (Bor (List ℕ) × Bor (List ℕ)))
        → MatchOption o (position_or_len (λ b. eqb b mark) word ≡ length word)
        (λ x. (position_or_len (λ b. eqb b mark) word < length word) × (x.0.now ≡ before_first (λ b. eqb b mark) word) × (x.1.now ≡ after_first (λ b. eqb b mark) word))
        → option_map (λ p. (p.0.now, p.1.now)) o ≡ parts_at mark word
    by_result None none = rw (not_before (position_or_len (λ b. eqb b mark) word) (length word) none) refl
    by_result (Some p) cut = rw (is_before (position_or_len (λ b. eqb b mark) word) (length word) cut.0) (λ i. Some (cut.1 i, cut.2 i))

-- a value's bytes, which are UTF-8
pub is_text : (hex : List ℕ) (found : Option (List ℕ)) (bytes slice text made : List ℕ) → found ≡ bytes_in hex → found ≡ Some bytes → slice ≡ bytes → text ≡ slice → IsUtf8 slice → made ≡ text
    → Some made ≡ value_in hex
is_text hex found bytes slice text made read is whole same utf8 copied =
    let held : bytes_in hex ≡ Some bytes = sym read ∙ is in
    let good : is_utf8 bytes ≡ true = is_utf8-from_IsUtf8 bytes (subst IsUtf8 whole utf8) in
    rw (held, good) (ap Some (copied ∙ same ∙ whole))

-- and bytes that aren't
pub is_no_text : (hex : List ℕ) (found : Option (List ℕ)) (bytes slice : List ℕ) → found ≡ bytes_in hex → found ≡ Some bytes → slice ≡ bytes → (IsUtf8 slice → ⊥) → None ≡ value_in hex
is_no_text hex found bytes slice read is whole bad =
    let held : bytes_in hex ≡ Some bytes = sym read ∙ is in
    let not_good : is_utf8 bytes ≡ false = by_test (is_utf8 bytes) refl in
    rw (held, not_good) refl
  where
    by_test : (b : Bool) → is_utf8 bytes ≡ b → b ≡ false
    by_test true good = absurd (bad (subst IsUtf8 (sym whole) (IsUtf8-from_is_utf8 bytes good)))
    by_test false not_good = refl
