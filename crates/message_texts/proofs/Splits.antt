-- Bytes that are told from what stands behind them.
use Rattle.std.proofs.Common.{◌≡◌, ◌∙◌, ℕ, zero, suc, ◌+◌, ◌/◌, ◌%◌, ◌<◌, Bool, true, false, nat_eq, cond, ℤ, pos, negsuc, List, [], ◌∷◌, ◌++◌, refl, ap, sym, arith}
use Rattle.std.specs.Fmt.{decimal, signed_decimal, digits, digits_onto, digit_glyph}
use Rattle.std.proofs.lemmas.Bool.{true≢false}
use Rattle.std.proofs.lemmas.Bool.Decides.{nat_tests}

-- ---- lists

abbrev pub first : List ℕ → ℕ
first [] = 0
first (x ∷ xs) = x

abbrev pub rest : List ℕ → List ℕ
rest [] = []
rest (x ∷ xs) = xs

abbrev pub last : List ℕ → ℕ
last [] = 0
last (x ∷ []) = x
last (x ∷ y ∷ ys) = last (y ∷ ys)

-- none of the bytes passes the test
abbrev pub Free : (ℕ → Bool) → List ℕ → Type 0
Free test [] = Unit {0}
Free test (x ∷ xs) = (test x ≡ false) × Free test xs

pub free_both : (test : ℕ → Bool) (xs ys : List ℕ) → Free test xs → Free test ys → Free test (xs ++ ys)
free_both test [] ys f g = g
free_both test (x ∷ xs) ys f g = (f.0, free_both test xs ys f.1 g)

not_both : (test : ℕ → Bool) (c d : ℕ) → test c ≡ true → test d ≡ false → c ≡ d → ⊥
not_both test c d t f e = true≢false (sym t ∙ ap test e ∙ f)

pub never : {x : ℕ} {xs : List ℕ} → [] ≡ x ∷ xs → ⊥
never e = cc

-- the first byte that passes the test ends the first part
pub splits : (test : ℕ → Bool) (a b : List ℕ) (c d : ℕ) (x y : List ℕ) → Free test a → Free test b → test c ≡ true → test d ≡ true → a ++ c ∷ x ≡ b ++ d ∷ y → (a ≡ b) × (c ∷ x ≡ d ∷ y)
splits test [] [] c d x y fa fb tc td e = (refl, e)
splits test [] (b ∷ bs) c d x y fa fb tc td e = absurd (not_both test c b tc fb.0 (ap first e))
splits test (a ∷ more) [] c d x y fa fb tc td e = absurd (not_both test d a td fa.0 (sym (ap first e)))
splits test (a ∷ more) (b ∷ bs) c d x y fa fb tc td e =
    let later = splits test more bs c d x y fa.1 fb.1 tc td (ap rest e) in
    (λ i. ap first e i ∷ later.0 i, later.1)

pub cancels : (a x y : List ℕ) → a ++ x ≡ a ++ y → x ≡ y
cancels [] x y e = e
cancels (b ∷ a) x y e = cancels a x y (ap rest e)

-- ---- numbers

-- either of two lists
either : (P : List ℕ → Type 0) (b : Bool) (x y : List ℕ) → P x → P y → P (cond b x y)
either P true x y p q = p
either P false x y p q = q

glyph : (n : ℕ) → digit_glyph false (n % 10) ≡ 48 + n % 10
glyph n =
    let small : n % 10 < 10 = omega arith in
    grind (arith, nat_tests)

-- the digits of a number, whatever it is
digits_free : (test : ℕ → Bool) → ((d : ℕ) → d < 10 → test (48 + d) ≡ false) → (k n : ℕ) (acc : List ℕ) → Free test acc → Free test (digits_onto k 10 false n acc)
digits_free test each zero n acc f = f
digits_free test each (suc k) n acc f =
    let small : n % 10 < 10 = omega arith in
    let digit = ap test (glyph n) ∙ each (n % 10) small in
    either (Free test) (nat_eq (n / 10) 0) (digit_glyph false (n % 10) ∷ acc) _ (digit, f) (digits_free test each k (n / 10) (digit_glyph false (n % 10) ∷ acc) (digit, f))

pub decimal_free : (test : ℕ → Bool) → ((d : ℕ) → d < 10 → test (48 + d) ≡ false) → (n : ℕ) → Free test (decimal n)
unfolding digits
decimal_free test each n = digits_free test each 64 n [] tt

pub signed_free : (test : ℕ → Bool) → test 45 ≡ false → ((d : ℕ) → d < 10 → test (48 + d) ≡ false) → (z : ℤ) → Free test (signed_decimal z)
signed_free test minus each (pos n) = decimal_free test each n
signed_free test minus each (negsuc n) = (minus, decimal_free test each (suc n))

digits_last : (k n a : ℕ) (acc : List ℕ) → last (digits_onto k 10 false n (a ∷ acc)) ≡ last (a ∷ acc)
digits_last zero n a acc = refl
digits_last (suc k) n a acc =
    either (λ xs. last xs ≡ last (a ∷ acc)) (nat_eq (n / 10) 0) (digit_glyph false (n % 10) ∷ a ∷ acc) _ refl (digits_last k (n / 10) (digit_glyph false (n % 10)) (a ∷ acc))

decimal_last : (n : ℕ) → last (decimal n) ≡ 48 + n % 10
unfolding digits
decimal_last n =
    let glyph_first = digit_glyph false (n % 10) in
    either (λ xs. last xs ≡ glyph_first) (nat_eq (n / 10) 0) (glyph_first ∷ []) (digits_onto 63 10 false (n / 10) (glyph_first ∷ [])) refl (digits_last 63 (n / 10) glyph_first []) ∙ glyph n

-- a number and the next one differ in their last digits
pub next_differs : (n : ℕ) → decimal n ≡ decimal (n + 1) → ⊥
next_differs n e =
    let same : 48 + n % 10 ≡ 48 + (n + 1) % 10 = sym (decimal_last n) ∙ ap last e ∙ decimal_last (n + 1) in
    omega (arith, same)
