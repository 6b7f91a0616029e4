-- Lists of entries with the same keys.
use Rattle.std.proofs.Common.{◌≡◌, ℕ, List, [], ◌∷◌, length, Bool, true, false, cond, Some, is_some, refl, ap, subst, suc}
use Rattle.std.specs.Ordering.{nat_cmp, match_ordering}
use Rattle.std.specs.declared.cmp.Ordering.{Ordering}
use Rattle.std.specs.declared.cmp.Ordering.TheVariants.{Less, Equal, Greater}
use Rattle.std.specs.Map.{lookup, remove_entry, set_value}
use Rattle.std.specs.BTreeMap.{insert_entry}
use Rattle.server_lines.specs.Sights.{numbers_in}
use Rattle.server_sessions.specs.Connections.{Paired}

module _ {X Y : Type 0} (R : X → Y → Type 0) where
  -- as many
  pub paired_length : (xs : List (ℕ × X)) (ys : List (ℕ × Y)) → Paired R xs ys → length xs ≡ length ys
  paired_length [] [] p = refl
  paired_length [] (y ∷ ys) p = absurd p
  paired_length (x ∷ xs) [] p = absurd p
  paired_length (x ∷ xs) (y ∷ ys) p = ap suc (paired_length xs ys p.2)

  -- under the same numbers
  pub paired_numbers : (xs : List (ℕ × X)) (ys : List (ℕ × Y)) → Paired R xs ys → numbers_in xs ≡ numbers_in ys
  paired_numbers [] [] p = refl
  paired_numbers [] (y ∷ ys) p = absurd p
  paired_numbers (x ∷ xs) [] p = absurd p
  paired_numbers (x ∷ xs) (y ∷ ys) p = let head : x.0 ≡ y.0 = p.0 in let rest : numbers_in xs ≡ numbers_in ys = paired_numbers xs ys p.2 in cc (head, rest)

  -- what a test finds in one it finds in the other
  pub paired_lookup : (test : ℕ → Bool) (xs : List (ℕ × X)) (ys : List (ℕ × Y)) → Paired R xs ys → (x : X) → lookup test xs ≡ Some x → (y : Y) × (lookup test ys ≡ Some y) × R x y
  paired_lookup test [] [] p x found = absurd (cc found)
  paired_lookup test [] (b ∷ ys) p x found = absurd p
  paired_lookup test (a ∷ xs) [] p x found = absurd p
  paired_lookup test (a ∷ xs) (b ∷ ys) p x found = by_test (test a.0) (test b.0) (ap test p.0) found (paired_lookup test xs ys p.2 x)
    where
      by_test : (s t : Bool) → s ≡ t → cond s (Some a.1) (lookup test xs) ≡ Some x → (lookup test xs ≡ Some x → (y : Y) × (lookup test ys ≡ Some y) × R x y)
          → (y : Y) × (cond t (Some b.1) (lookup test ys) ≡ Some y) × R x y
      by_test true true e found more = (b.1, refl, let same : a.1 ≡ x = cc in subst (λ (v : X). R v b.1) same p.1)
      by_test true false e found more = absurd (cc e)
      by_test false true e found more = absurd (cc e)
      by_test false false e found more = more found

  -- and nothing in both
  pub paired_is_some : (test : ℕ → Bool) (xs : List (ℕ × X)) (ys : List (ℕ × Y)) → Paired R xs ys → is_some (lookup test xs) ≡ is_some (lookup test ys)
  paired_is_some test [] [] p = refl
  paired_is_some test [] (b ∷ ys) p = absurd p
  paired_is_some test (a ∷ xs) [] p = absurd p
  paired_is_some test (a ∷ xs) (b ∷ ys) p = by_test (test a.0) (test b.0) (ap test p.0) (paired_is_some test xs ys p.2)
    where
      by_test : (s t : Bool) → s ≡ t → is_some (lookup test xs) ≡ is_some (lookup test ys) → is_some (cond s (Some a.1) (lookup test xs)) ≡ is_some (cond t (Some b.1) (lookup test ys))
      by_test true true e more = refl
      by_test true false e more = absurd (cc e)
      by_test false true e more = absurd (cc e)
      by_test false false e more = more

  pub paired_remove : (test : ℕ → Bool) (xs : List (ℕ × X)) (ys : List (ℕ × Y)) → Paired R xs ys → Paired R (remove_entry test xs) (remove_entry test ys)
  paired_remove test [] [] p = p
  paired_remove test [] (b ∷ ys) p = absurd p
  paired_remove test (a ∷ xs) [] p = absurd p
  paired_remove test (a ∷ xs) (b ∷ ys) p = by_test (test a.0) (test b.0) (ap test p.0) (paired_remove test xs ys p.2)
    where
      by_test : (s t : Bool) → s ≡ t → Paired R (remove_entry test xs) (remove_entry test ys) → Paired R (cond s xs (a ∷ remove_entry test xs)) (cond t ys (b ∷ remove_entry test ys))
      by_test true true e more = p.2
      by_test true false e more = absurd (cc e)
      by_test false true e more = absurd (cc e)
      by_test false false e more = (p.0, p.1, more)

  pub paired_set : (test : ℕ → Bool) (xs : List (ℕ × X)) (ys : List (ℕ × Y)) (x : X) (y : Y) → R x y → Paired R xs ys → Paired R (set_value test xs x) (set_value test ys y)
  paired_set test [] [] x y r p = p
  paired_set test [] (b ∷ ys) x y r p = absurd p
  paired_set test (a ∷ xs) [] x y r p = absurd p
  paired_set test (a ∷ xs) (b ∷ ys) x y r p = by_test (test a.0) (test b.0) (ap test p.0) (paired_set test xs ys x y r p.2)
    where
      by_test : (s t : Bool) → s ≡ t → Paired R (set_value test xs x) (set_value test ys y) → Paired R (cond s ((a.0, x) ∷ xs) (a ∷ set_value test xs x)) (cond t ((b.0, y) ∷ ys) (b ∷ set_value test ys y))
      by_test true true e more = (p.0, r, p.2)
      by_test true false e more = absurd (cc e)
      by_test false true e more = absurd (cc e)
      by_test false false e more = (p.0, p.1, more)

  pub paired_insert : (key : ℕ) (xs : List (ℕ × X)) (ys : List (ℕ × Y)) (x : X) (y : Y) → R x y → Paired R xs ys → Paired R (insert_entry nat_cmp xs key x) (insert_entry nat_cmp ys key y)
  paired_insert key [] [] x y r p = (refl, r, tt)
  paired_insert key [] (b ∷ ys) x y r p = absurd p
  paired_insert key (a ∷ xs) [] x y r p = absurd p
  paired_insert key (a ∷ xs) (b ∷ ys) x y r p = by_order (nat_cmp key a.0) (nat_cmp key b.0) (ap (nat_cmp key) p.0) (paired_insert key xs ys x y r p.2)
    where
      by_order : (s t : Ordering) → s ≡ t → Paired R (insert_entry nat_cmp xs key x) (insert_entry nat_cmp ys key y)
          → Paired R (match_ordering s ((key, x) ∷ a ∷ xs) ((a.0, x) ∷ xs) (a ∷ insert_entry nat_cmp xs key x)) (match_ordering t ((key, y) ∷ b ∷ ys) ((b.0, y) ∷ ys) (b ∷ insert_entry nat_cmp ys key y))
      by_order Less Less e more = (refl, r, p)
      by_order Equal Equal e more = (p.0, r, p.2)
      by_order Greater Greater e more = (p.0, p.1, more)
      by_order Less Equal e more = absurd (cc e)
      by_order Less Greater e more = absurd (cc e)
      by_order Equal Less e more = absurd (cc e)
      by_order Equal Greater e more = absurd (cc e)
      by_order Greater Less e more = absurd (cc e)
      by_order Greater Equal e more = absurd (cc e)
