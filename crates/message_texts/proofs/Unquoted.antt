-- A text in quotation marks tells the text, and so do bytes in hexadecimal.
use Rattle.std.proofs.Common.{◌≡◌, ◌∙◌, ℕ, zero, suc, inl, inr, ◌+◌, ◌-◌, ◌*◌, ◌/◌, ◌%◌, ◌<◌, ◌^◌, Bool, true, false, nat_eq, nat_lt, ◌||◌, cond, List, [], ◌∷◌, ◌++◌, Option, Some, None, refl, ap, sym, subst, arith, append_assoc, codes}
use Rattle.std.specs.Prelude.{slice_index, Result, Ok, Err}
use Rattle.std.specs.Fmt.{digit_glyph}
use Rattle.std.proofs.lemmas.Bool.{eqb-true, cases_lt, agree_below_at}
use Rattle.std.proofs.lemmas.Bool.Decides.{nat_tests}
use Rattle.std.proofs.lemmas.List.{get_or_past}
use Rattle.std.specs.Int.{w64, to_be_bytes, from_be_bytes}
use Rattle.std.proofs.lemmas.Nat.{from_be_bytes-to_be_bytes_8}
use Rattle.hex.specs.Hex.{IsBytes, encode_lower, encode_with, lower_digits, decode_of}
use Rattle.hex.proofs.HexLemmas.{decode_of-encode_lower}
use Rattle.message_texts.specs.Words.{quoted, quoted_byte, quoted_bytes, hexadecimal}
use Rattle.message_texts.specs.Texts.{bits}
use Rattle.message_texts.proofs.Splits.{rest, Free, free_both, cancels}

-- ---- one byte

digit_of : ℕ → ℕ
digit_of g = cond (nat_lt g 58) (g - 48) (g - 87)

abbrev coded_byte : List ℕ → Option (ℕ × List ℕ)
coded_byte (high ∷ low ∷ bytes) = Some (digit_of high * 16 + digit_of low, bytes)
coded_byte _ = None

abbrev escaped_byte : List ℕ → Option (ℕ × List ℕ)
escaped_byte [] = None
escaped_byte (c ∷ bytes) = cond (nat_eq c 120) (coded_byte bytes) (Some (cond (nat_eq c 110) 10 c, bytes))

-- the first byte that stands before the closing mark, and what is behind it
abbrev read_byte : List ℕ → Option (ℕ × List ℕ)
read_byte [] = None
read_byte (b ∷ bytes) = cond (nat_eq b 34) None (cond (nat_eq b 92) (escaped_byte bytes) (Some (b, bytes)))

digit_again : (d : ℕ) → d < 16 → digit_of (digit_glyph false d) ≡ d
unfolding digit_of
digit_again d h = grind (arith, nat_tests)

plain_byte : (b : ℕ) (bytes : List ℕ) → nat_eq b 34 ≡ false → nat_eq b 92 ≡ false → nat_eq b 10 ≡ false → (nat_lt b 32 || nat_eq b 127) ≡ false → read_byte (quoted_byte b ++ bytes) ≡ Some (b, bytes)
plain_byte b bytes mark slash feed control = rw (mark, slash, feed, control, mark, slash) refl

control_byte : (b : ℕ) (bytes : List ℕ) → nat_eq b 34 ≡ false → nat_eq b 92 ≡ false → nat_eq b 10 ≡ false → (nat_lt b 32 || nat_eq b 127) ≡ true → read_byte (quoted_byte b ++ bytes) ≡ Some (b, bytes)
control_byte b bytes mark slash feed control =
    let below : b < 128 = grind (arith, nat_tests) in
    let high : b / 16 < 16 = omega arith in
    let low : b % 16 < 16 = omega arith in
    let whole : b / 16 * 16 + b % 16 ≡ b = omega arith in
    rw (mark, slash, feed, control) (ap (λ n. Some (n, bytes)) (rw (digit_again (b / 16) high, digit_again (b % 16) low) whole))

byte_again : (b : ℕ) (bytes : List ℕ) → read_byte (quoted_byte b ++ bytes) ≡ Some (b, bytes)
byte_again b bytes = marks (nat_eq b 34) refl
  where
    controls : (x : Bool) → nat_eq b 34 ≡ false → nat_eq b 92 ≡ false → nat_eq b 10 ≡ false → (nat_lt b 32 || nat_eq b 127) ≡ x → read_byte (quoted_byte b ++ bytes) ≡ Some (b, bytes)
    controls true mark slash feed e = control_byte b bytes mark slash feed e
    controls false mark slash feed e = plain_byte b bytes mark slash feed e

    feeds : (x : Bool) → nat_eq b 34 ≡ false → nat_eq b 92 ≡ false → nat_eq b 10 ≡ x → read_byte (quoted_byte b ++ bytes) ≡ Some (b, bytes)
    feeds true mark slash e = subst (λ n. read_byte (quoted_byte n ++ bytes) ≡ Some (n, bytes)) (sym (eqb-true b 10 e)) refl
    feeds false mark slash e = controls (nat_lt b 32 || nat_eq b 127) mark slash e refl

    slashes : (x : Bool) → nat_eq b 34 ≡ false → nat_eq b 92 ≡ x → read_byte (quoted_byte b ++ bytes) ≡ Some (b, bytes)
    slashes true mark e = subst (λ n. read_byte (quoted_byte n ++ bytes) ≡ Some (n, bytes)) (sym (eqb-true b 92 e)) refl
    slashes false mark e = feeds (nat_eq b 10) mark e refl

    marks : (x : Bool) → nat_eq b 34 ≡ x → read_byte (quoted_byte b ++ bytes) ≡ Some (b, bytes)
    marks true e = subst (λ n. read_byte (quoted_byte n ++ bytes) ≡ Some (n, bytes)) (sym (eqb-true b 34 e)) refl
    marks false e = slashes (nat_eq b 92) e refl

-- ---- texts

abbrev byte_of : Option (ℕ × List ℕ) → ℕ
byte_of None = 0
byte_of (Some p) = p.0

abbrev behind_of : Option (ℕ × List ℕ) → List ℕ
behind_of None = []
behind_of (Some p) = p.1

first_again : (b : ℕ) (bytes more : List ℕ) → read_byte ((quoted_byte b ++ quoted_bytes bytes) ++ more) ≡ Some (b, quoted_bytes bytes ++ more)
first_again b bytes more = ap read_byte (append_assoc (quoted_byte b) (quoted_bytes bytes) more) ∙ byte_again b (quoted_bytes bytes ++ more)

none_is : {p : ℕ × List ℕ} → None ≡ Some p → ⊥
none_is e = cc

quoted_bytes_tell : (a b x y : List ℕ) → quoted_bytes a ++ 34 ∷ x ≡ quoted_bytes b ++ 34 ∷ y → (a ≡ b) × (x ≡ y)
quoted_bytes_tell [] [] x y e = (refl, ap rest e)
quoted_bytes_tell [] (b ∷ bs) x y e = absurd (none_is (ap read_byte e ∙ first_again b bs (34 ∷ y)))
quoted_bytes_tell (a ∷ bytes) [] x y e = absurd (none_is (sym (ap read_byte e) ∙ first_again a bytes (34 ∷ x)))
quoted_bytes_tell (a ∷ bytes) (b ∷ bs) x y e =
    let same = sym (first_again a bytes (34 ∷ x)) ∙ ap read_byte e ∙ first_again b bs (34 ∷ y) in
    let later = quoted_bytes_tell bytes bs x y (ap behind_of same) in
    (λ i. ap byte_of same i ∷ later.0 i, later.1)

pub quoted_tells : (a b x y : List ℕ) → quoted a ++ x ≡ quoted b ++ y → (a ≡ b) × (x ≡ y)
unfolding quoted
quoted_tells a b x y e = quoted_bytes_tell a b x y (sym (append_assoc (quoted_bytes a) (34 ∷ []) x) ∙ ap rest e ∙ append_assoc (quoted_bytes b) (34 ∷ []) y)

-- ---- what holds no line feed

abbrev pub feed : ℕ → Bool
feed b = nat_eq b 10

glyph_free : (d : ℕ) → feed (digit_glyph false d) ≡ false
glyph_free d = grind (arith, nat_tests)

byte_free : (b : ℕ) → Free feed (quoted_byte b)
byte_free b = marks (nat_eq b 34) refl
  where
    controls : (x : Bool) → nat_eq b 10 ≡ false → Free feed (cond x (92 ∷ 120 ∷ digit_glyph false (b / 16) ∷ digit_glyph false (b % 16) ∷ []) (b ∷ []))
    controls true f = (refl, (refl, (glyph_free (b / 16), (glyph_free (b % 16), tt))))
    controls false f = (f, tt)

    feeds : (x : Bool) → nat_eq b 10 ≡ x → Free feed (cond x (92 ∷ 110 ∷ []) (cond (nat_lt b 32 || nat_eq b 127) (92 ∷ 120 ∷ digit_glyph false (b / 16) ∷ digit_glyph false (b % 16) ∷ []) (b ∷ [])))
    feeds true e = (refl, (refl, tt))
    feeds false e = controls (nat_lt b 32 || nat_eq b 127) e

    slashes : (x : Bool) → nat_eq b 92 ≡ x → Free feed (cond x (92 ∷ 92 ∷ []) (cond (nat_eq b 10) (92 ∷ 110 ∷ []) (cond (nat_lt b 32 || nat_eq b 127) (92 ∷ 120 ∷ digit_glyph false (b / 16) ∷ digit_glyph false (b % 16) ∷ []) (b ∷ []))))
    slashes true e = (refl, (refl, tt))
    slashes false e = feeds (nat_eq b 10) refl

    marks : (x : Bool) → nat_eq b 34 ≡ x → Free feed (cond x (92 ∷ 34 ∷ []) (cond (nat_eq b 92) (92 ∷ 92 ∷ []) (cond (nat_eq b 10) (92 ∷ 110 ∷ []) (cond (nat_lt b 32 || nat_eq b 127) (92 ∷ 120 ∷ digit_glyph false (b / 16) ∷ digit_glyph false (b % 16) ∷ []) (b ∷ [])))))
    marks true e = (refl, (refl, tt))
    marks false e = slashes (nat_eq b 92) refl

bytes_free : (bytes : List ℕ) → Free feed (quoted_bytes bytes)
bytes_free [] = tt
bytes_free (b ∷ bytes) = free_both feed (quoted_byte b) (quoted_bytes bytes) (byte_free b) (bytes_free bytes)

pub quoted_free : (text : List ℕ) → Free feed (quoted text)
unfolding quoted
quoted_free text = (refl, free_both feed (quoted_bytes text) (34 ∷ []) (bytes_free text) (refl, tt))

-- ---- bytes in hexadecimal

lower_free : (d : ℕ) → feed (slice_index lower_digits d) ≡ false
lower_free d = elim (cases_lt d 16) [
  | inl below ↦ agree_below_at (λ n. feed (slice_index lower_digits n)) (λ n. false) 16 d refl below
  | inr past ↦ ap feed (get_or_past lower_digits d 0 past)
]

encode_free : (bytes : List ℕ) → Free feed (encode_lower bytes)
unfolding encode_with
encode_free [] = tt
encode_free (b ∷ bytes) = (lower_free (b / 16), (lower_free (b % 16), encode_free bytes))

pub hexadecimal_free : (bytes : List ℕ) → Free feed (hexadecimal bytes)
unfolding hexadecimal
hexadecimal_free bytes = free_both feed (codes "hex ") (encode_lower bytes) (refl, (refl, (refl, (refl, tt)))) (encode_free bytes)

pub bits_free : (n : ℕ) → Free feed (bits n)
unfolding bits
bits_free n = free_both feed (codes "bits ") (encode_lower (to_be_bytes w64 n)) (refl, (refl, (refl, (refl, (refl, tt))))) (encode_free (to_be_bytes w64 n))

abbrev ok_or_none : {E : Type 0} → Result (List ℕ) E → List ℕ
ok_or_none (Ok bytes) = bytes
ok_or_none (Err e) = []

encode_tells : (a b : List ℕ) → IsBytes a → IsBytes b → encode_lower a ≡ encode_lower b → a ≡ b
encode_tells a b fa fb e = ap ok_or_none (sym (decode_of-encode_lower a fa) ∙ ap decode_of e ∙ decode_of-encode_lower b fb)

pub hexadecimal_tells : (a b : List ℕ) → IsBytes a → IsBytes b → hexadecimal a ≡ hexadecimal b → a ≡ b
unfolding hexadecimal
hexadecimal_tells a b fa fb e = encode_tells a b fa fb (cancels (codes "hex ") (encode_lower a) (encode_lower b) e)

abbrev Small : List ℕ → Type 0
Small [] = Unit {0}
Small (b ∷ bytes) = (b < 256) × Small bytes

small_bytes : (bytes : List ℕ) → Small bytes → IsBytes bytes
small_bytes [] f i = omega arith
small_bytes (b ∷ bytes) f zero = f.0
small_bytes (b ∷ bytes) f (suc i) = small_bytes bytes f.1 i

low : (n : ℕ) → n % 256 < 256
low n = omega arith

eight_bytes : (n : ℕ) → IsBytes (to_be_bytes w64 n)
eight_bytes n = small_bytes (to_be_bytes w64 n) (low (n / 256 ^ 7), (low (n / 256 ^ 6), (low (n / 256 ^ 5), (low (n / 256 ^ 4), (low (n / 256 ^ 3), (low (n / 256 ^ 2), (low (n / 256 ^ 1), (low n, tt))))))))

pub bits_tell : (m n : ℕ) → m < 2 ^ 64 → n < 2 ^ 64 → bits m ≡ bits n → m ≡ n
unfolding bits
bits_tell m n fm fn e =
    let same = encode_tells (to_be_bytes w64 m) (to_be_bytes w64 n) (eight_bytes m) (eight_bytes n) (cancels (codes "bits ") (encode_lower (to_be_bytes w64 m)) (encode_lower (to_be_bytes w64 n)) e) in
    sym (from_be_bytes-to_be_bytes_8 m fm) ∙ ap (from_be_bytes w64) same ∙ from_be_bytes-to_be_bytes_8 n fn
