-- That a trial's name tells its number and its hash.
use Rattle.std.proofs.Common.{◌≡◌, ◌∙◌, ℕ, zero, suc, ◌+◌, ◌*◌, ◌/◌, ◌%◌, ◌<◌, ◌^◌, Bool, true, false, nat_eq, cond, List, [], ◌∷◌, ◌++◌, length, Result, Ok, Err, refl, ap, sym, arith}
use Rattle.std.specs.Fmt.{decimal, digits, digits_onto, digit_glyph}
use Rattle.std.proofs.lemmas.Bool.{true≢false}
use Rattle.std.proofs.lemmas.Bool.Decides.{nat_tests}
use Rattle.std.proofs.lemmas.Fmt.{decimal_injective}
use Rattle.hex.specs.Hex.{IsBytes, decode_of, encode_lower, lower_digits}
use Rattle.hex.proofs.HexLemmas.{decode_of-encode_lower, length-encode_with}
use Rattle.agent_rounds.specs.Proving.{hash_word, trial_name}

-- none of the bytes is a blank
abbrev Unbroken : List ℕ → Type 0
Unbroken [] = Unit {0}
Unbroken (x ∷ xs) = (nat_eq x 32 ≡ false) × Unbroken xs

abbrev first : List ℕ → ℕ
first [] = 0
first (x ∷ xs) = x

abbrev rest : List ℕ → List ℕ
rest [] = []
rest (x ∷ xs) = xs

no_blank : (x : ℕ) → nat_eq x 32 ≡ false → 32 ≡ x → ⊥
no_blank x other is = true≢false (ap (λ (n : ℕ). nat_eq n 32) is ∙ other)

-- the first blank ends the first word
splits : (a b x y : List ℕ) → Unbroken a → Unbroken b → a ++ 32 ∷ x ≡ b ++ 32 ∷ y → (a ≡ b) × (x ≡ y)
splits [] [] x y fa fb e = (refl, ap rest e)
splits [] (b ∷ bs) x y fa fb e = absurd (no_blank b fb.0 (ap first e))
splits (a ∷ more) [] x y fa fb e = absurd (no_blank a fa.0 (sym (ap first e)))
splits (a ∷ more) (b ∷ bs) x y fa fb e =
    let later = splits more bs x y fa.1 fb.1 (ap rest e) in
    (λ i. ap first e i ∷ later.0 i, later.1)

-- either of two lists
either : (P : List ℕ → Type 0) (b : Bool) (x y : List ℕ) → P x → P y → P (cond b x y)
either P true x y p q = p
either P false x y p q = q

glyph : (n : ℕ) → digit_glyph false (n % 10) ≡ 48 + n % 10
glyph n =
    let small : n % 10 < 10 = omega arith in
    grind (arith, nat_tests)

digit_unbroken : (d : ℕ) → nat_eq (48 + d) 32 ≡ false
digit_unbroken d = grind (arith, nat_tests)

digits_unbroken : (k n : ℕ) (acc : List ℕ) → Unbroken acc → Unbroken (digits_onto k 10 false n acc)
digits_unbroken zero n acc f = f
digits_unbroken (suc k) n acc f =
    let digit = ap (λ b. nat_eq b 32) (glyph n) ∙ digit_unbroken (n % 10) in
    either Unbroken (nat_eq (n / 10) 0) (digit_glyph false (n % 10) ∷ acc) _ (digit, f) (digits_unbroken k (n / 10) (digit_glyph false (n % 10) ∷ acc) (digit, f))

number_unbroken : (n : ℕ) → Unbroken (decimal n)
unfolding digits
number_unbroken n = digits_unbroken 64 n [] tt

abbrev ok_or_none : {E : Type 0} → Result (List ℕ) E → List ℕ
ok_or_none (Ok bytes) = bytes
ok_or_none (Err e) = []

encode_tells : (a b : List ℕ) → IsBytes a → IsBytes b → encode_lower a ≡ encode_lower b → a ≡ b
encode_tells a b fa fb e = ap ok_or_none (sym (decode_of-encode_lower a fa) ∙ ap decode_of e ∙ decode_of-encode_lower b fb)

-- the sign of an empty hash is one byte, and digits are two for each
one_digit : (hash : List ℕ) → 45 ∷ [] ≡ encode_lower hash → ⊥
one_digit hash e = let two = length-encode_with lower_digits hash in let one = ap length e in omega (arith, one, two)

hash_tells : (a b : List ℕ) → IsBytes a → IsBytes b → hash_word a ≡ hash_word b → a ≡ b
hash_tells [] [] fa fb e = refl
hash_tells [] (b ∷ bs) fa fb e = absurd (one_digit (b ∷ bs) e)
hash_tells (a ∷ more) [] fa fb e = absurd (one_digit (a ∷ more) (sym e))
hash_tells (a ∷ more) (b ∷ bs) fa fb e = encode_tells (a ∷ more) (b ∷ bs) fa fb e

pub name_tells : (n m : ℕ) (a b : List ℕ) → n < 2 ^ 64 → m < 2 ^ 64 → IsBytes a → IsBytes b → trial_name n a ≡ trial_name m b → (n ≡ m) × (a ≡ b)
name_tells n m a b n_small m_small fa fb e =
    let parts = splits (decimal n) (decimal m) (hash_word a) (hash_word b) (number_unbroken n) (number_unbroken m) e in
    (decimal_injective n m n_small m_small parts.0, hash_tells a b fa fb parts.1)
