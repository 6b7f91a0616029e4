-- As many different numbers below a bound as the bound are all of them.
use Prim.Native.Nat.{zero}
use Rattle.std.proofs.Common.{◌≡◌, ℕ, suc, ◌+◌, ◌<◌, ◌≤◌, ◌==◌, List, [], ◌∷◌, length, filter, Bool, true, false, cond, not, Some, ◌⊎◌, inl, inr, refl, sym, ap, subst, arith}
use Rattle.std.specs.Prelude.{slice_get}
use Rattle.std.specs.List.{AllByRecursion}
use Rattle.std.proofs.lemmas.Bool.{eqb-true, eqb-false, cases_eq, cases_order}
use Rattle.shard_servers.specs.Agreement.{AreDistinct}

-- the numbers without one
abbrev without : ℕ → List ℕ → List ℕ
without n xs = filter (λ x. not (x == n)) xs

absent_stays : (n : ℕ) (xs : List ℕ) → AllByRecursion (λ y. n ≡ y → ⊥) xs → without n xs ≡ xs
absent_stays n [] a = refl
absent_stays n (x ∷ xs) a = by_test (x == n) refl (absent_stays n xs a.1)
  where
    by_test : (b : Bool) → (x == n) ≡ b → without n xs ≡ xs → cond (not b) (x ∷ without n xs) (without n xs) ≡ x ∷ xs
    by_test true e rest = absurd (a.0 (sym (eqb-true x n e)))
    by_test false e rest = ap (λ ys. x ∷ ys) rest

keeps : (P : ℕ → Type 0) (n : ℕ) (xs : List ℕ) → AllByRecursion P xs → AllByRecursion P (without n xs)
keeps P n [] a = tt
keeps P n (x ∷ xs) a = by_test (x == n) (keeps P n xs a.1)
  where
    by_test : (b : Bool) → AllByRecursion P (without n xs) → AllByRecursion P (cond (not b) (x ∷ without n xs) (without n xs))
    by_test true rest = rest
    by_test false rest = (a.0, rest)

distinct_stays : (n : ℕ) (xs : List ℕ) → AreDistinct xs → AreDistinct (without n xs)
distinct_stays n [] d = tt
distinct_stays n (x ∷ xs) d = by_test (x == n) (distinct_stays n xs d.1)
  where
    by_test : (b : Bool) → AreDistinct (without n xs) → AreDistinct (cond (not b) (x ∷ without n xs) (without n xs))
    by_test true rest = rest
    by_test false rest = (keeps (λ y. x ≡ y → ⊥) n xs d.0, rest)

one_less : (n : ℕ) (xs : List ℕ) → AreDistinct xs → length xs ≤ length (without n xs) + 1
one_less n [] d = omega arith
one_less n (x ∷ xs) d = by_test (x == n) refl (one_less n xs d.1)
  where
    by_test : (b : Bool) → (x == n) ≡ b → length xs ≤ length (without n xs) + 1 → length (x ∷ xs) ≤ length (cond (not b) (x ∷ without n xs) (without n xs)) + 1
    by_test true e rest =
        let same : n ≡ x = sym (eqb-true x n e) in
        let stays = absent_stays n xs (subst (λ m. AllByRecursion (λ y. m ≡ y → ⊥) xs) (sym same) d.0) in
        omega (arith, ap length stays)
    by_test false e rest = omega (arith, rest)

below_other : (y k : ℕ) → y < suc k → (y ≡ k → ⊥) → y < k
below_other y k below differ = by_order (cases_order y k)
  where
    by_order : ((y ≡ k) ⊎ ((y < k) ⊎ (k < y))) → y < k
    by_order (inl same) = absurd (differ same)
    by_order (inr (inl less)) = less
    by_order (inr (inr more)) = absurd (omega (arith, below, more))

lower : (n : ℕ) (xs : List ℕ) → AllByRecursion (λ x. x < suc n) xs → AllByRecursion (λ x. x < n) (without n xs)
lower n [] a = tt
lower n (x ∷ xs) a = by_test (x == n) refl (lower n xs a.1)
  where
    by_test : (b : Bool) → (x == n) ≡ b → AllByRecursion (λ y. y < n) (without n xs) → AllByRecursion (λ y. y < n) (cond (not b) (x ∷ without n xs) (without n xs))
    by_test true e rest = rest
    by_test false e rest = (below_other x n a.0 (eqb-false x n e), rest)

-- there are no more different numbers below a bound than the bound
pub few : (n : ℕ) (xs : List ℕ) → AllByRecursion (λ x. x < n) xs → AreDistinct xs → length xs ≤ n
few zero [] a d = omega arith
few zero (x ∷ xs) a d = let below = a.0 in absurd (omega (arith, below))
few (suc n) xs a d =
    let rest = few n (without n xs) (lower n xs a) (distinct_stays n xs d) in
    let less = one_less n xs d in
    omega (arith, rest, less)

-- a number is among others, or it is none of them
among : (p : ℕ) (xs : List ℕ) → ((k : ℕ) × (slice_get xs k ≡ Some p)) ⊎ AllByRecursion (λ y. p ≡ y → ⊥) xs
among p [] = inr tt
among p (x ∷ xs) = by_case (cases_eq p x) (among p xs)
  where
    by_case : ((p ≡ x) ⊎ (p ≡ x → ⊥)) → (((k : ℕ) × (slice_get xs k ≡ Some p)) ⊎ AllByRecursion (λ y. p ≡ y → ⊥) xs)
        → ((k : ℕ) × (slice_get (x ∷ xs) k ≡ Some p)) ⊎ AllByRecursion (λ y. p ≡ y → ⊥) (x ∷ xs)
    by_case (inl same) rest = inl (0, ap Some (sym same))
    by_case (inr differ) (inl found) = inl (suc found.0, found.1)
    by_case (inr differ) (inr none) = inr (differ, none)

pub covers : (n : ℕ) (xs : List ℕ) → AllByRecursion (λ x. x < n) xs → AreDistinct xs → length xs ≡ n
    → (p : ℕ) → p < n → (k : ℕ) × (slice_get xs k ≡ Some p)
covers n xs a d full p below = by_case (among p xs)
  where
    by_case : (((k : ℕ) × (slice_get xs k ≡ Some p)) ⊎ AllByRecursion (λ y. p ≡ y → ⊥) xs) → (k : ℕ) × (slice_get xs k ≡ Some p)
    by_case (inl found) = found
    by_case (inr none) = let many = few n (p ∷ xs) (below, a) (none, d) in absurd (omega (arith, many, full))
