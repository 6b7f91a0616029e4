-- Words that stand for texts.
use Rattle.std.proofs.Common.{◌≡◌, ◌⊎◌, ℕ, ◌<◌, ◌==◌, not, true, List, [], ◌∷◌, ◌++◌, length, drop, codes, is_some, nat_eq, refl, inl, inr, arith}
use Rattle.std.specs.Char.{is_ascii_digit, is_ascii_graphic}
use Rattle.std.specs.List.{list_all, starts_with}
use Rattle.std.specs.Str.{IsUtf8}
use Rattle.std.proofs.lemmas.Bool.{and_parts, or_cases}
use Rattle.std.proofs.lemmas.Bool.Decides.{nat_tests, Decides-eqb}
use Rattle.std.proofs.lemmas.List.Sums.{AllPass-from_list_all}
use Rattle.std.proofs.lemmas.Slice.Eq.{starts_is}
use Rattle.std.proofs.lemmas.Str.{IsUtf8-from_ascii}
use Rattle.std.proofs.lemmas.Str.Ascii.{IsAscii-from_all}
use Rattle.world_scripts.specs.Words.{is_word, is_url, is_before_digit, digit_number}

graphic_below : (b : ℕ) → is_ascii_graphic b ≡ true → b < 128
graphic_below b is = grind (arith, nat_tests)

-- a word is text
pub word_is_utf8 : (word : List ℕ) → is_word word ≡ true → IsUtf8 word
word_is_utf8 word is =
    let all = AllPass-from_list_all is_ascii_graphic word (and_parts (not (length word == 0)) (list_all is_ascii_graphic word) is).1 in
    IsUtf8-from_ascii word (IsAscii-from_all word (λ k d within. graphic_below _ (all k d within)))

digit_graphic : (b : ℕ) → is_ascii_digit b ≡ true → is_ascii_graphic b ≡ true
digit_graphic b is = grind (arith, nat_tests)

-- a server's number, of one byte
digit_of_number : (word : List ℕ) → is_some (digit_number word) ≡ true → (b : ℕ) × (word ≡ b ∷ []) × (is_ascii_digit b ≡ true)
digit_of_number [] is = absurd (cc)
digit_of_number (b ∷ []) is = (b, refl, grind (arith, nat_tests))
digit_of_number (b ∷ c ∷ word) is = absurd (cc)

before_digit : (front word : List ℕ) → is_before_digit front word ≡ true → (b : ℕ) × (word ≡ front ++ b ∷ []) × (is_ascii_graphic b ≡ true)
before_digit front word is =
    let parts = and_parts (starts_with nat_eq word front) (is_some (digit_number (drop (length front) word))) is in
    let whole : word ≡ front ++ drop (length front) word = (starts_is Decides-eqb word front (starts_with nat_eq word front) refl).0 parts.0 in
    let digit = digit_of_number (drop (length front) word) parts.1 in
    (digit.0, rw (← digit.1) whole, digit_graphic digit.0 digit.2)

plain_word : (b : ℕ) → is_ascii_graphic b ≡ true → is_word (codes "http://s" ++ b ∷ []) ≡ true
plain_word b is = rw is refl

secure_word : (b : ℕ) → is_ascii_graphic b ≡ true → is_word (codes "wss://s" ++ b ∷ []) ≡ true
secure_word b is = rw is refl

by_scheme : (word : List ℕ) → (is_before_digit (codes "http://s") word ≡ true) ⊎ (is_before_digit (codes "wss://s") word ≡ true) → is_word word ≡ true
by_scheme word (inl plain) =
    let parts = before_digit (codes "http://s") word plain in
    rw parts.1 (plain_word parts.0 parts.2)
by_scheme word (inr secure) =
    let parts = before_digit (codes "wss://s") word secure in
    rw parts.1 (secure_word parts.0 parts.2)

-- an endpoint of the servers is a word
pub url_is_word : (word : List ℕ) → is_url word ≡ true → is_word word ≡ true
url_is_word word is = by_scheme word (or_cases (is_before_digit (codes "http://s") word) (is_before_digit (codes "wss://s") word) is)
