-- What a desk's share of the reports is.
use Prim.Native.Nat.{zero}
use Rattle.std.proofs.Common.{◌≡◌, ℕ, suc, ◌+◌, ◌%◌, ◌<◌, ◌==◌, List, [], ◌∷◌, ◌++◌, length, filter, Bool, true, false, cond, Some, refl, sym, ◌∙◌, ap, arith}
use Rattle.std.specs.Prelude.{slice_get}
use Rattle.std.specs.List.{enumerate_from}
use Rattle.std.proofs.lemmas.Bool.{eqb-true, eqb-false}
use Rattle.std.proofs.lemmas.List.Elements.{filter-append}
use Rattle.std.proofs.lemmas.Option.{none-some, same_Some}
use Rattle.message_values.specs.declared.report.AgentToServer.{AgentToServer}

module _ (number desks : ℕ) where
  -- the share of reports that are counted from a number
  abbrev share : ℕ → List AgentToServer → List (ℕ × AgentToServer)
  share from items = filter (λ p. p.0 % desks == number) (enumerate_from from items)

  -- a report of the share is one of the list, at a place that is the desk's
  pub of_list : (items : List AgentToServer) (from k i : ℕ) (m : AgentToServer) → slice_get (share from items) k ≡ Some (i, m)
      → (j : ℕ) × (i ≡ from + j) × (slice_get items j ≡ Some m) × (i % desks ≡ number)
  of_list [] from k i m at = absurd (none-some (i, m) at)
  of_list (x ∷ items) from k i m at = by_test (from % desks == number) refl k at (λ n here. of_list items (from + 1) n i m here)
    where
      further : ((j : ℕ) × (i ≡ (from + 1) + j) × (slice_get items j ≡ Some m) × (i % desks ≡ number)) → (j : ℕ) × (i ≡ from + j) × (slice_get (x ∷ items) j ≡ Some m) × (i % desks ≡ number)
      further r = (let e = r.1 in (suc r.0, omega (arith, e), r.2, r.3))

      by_test : (b : Bool) → (from % desks == number) ≡ b → (n : ℕ) → slice_get (cond b ((from, x) ∷ share (from + 1) items) (share (from + 1) items)) n ≡ Some (i, m)
          → ((j : ℕ) → slice_get (share (from + 1) items) j ≡ Some (i, m) → (k : ℕ) × (i ≡ (from + 1) + k) × (slice_get items k ≡ Some m) × (i % desks ≡ number))
          → (j : ℕ) × (i ≡ from + j) × (slice_get (x ∷ items) j ≡ Some m) × (i % desks ≡ number)
      by_test true e zero here rest =
          let same : (from, x) ≡ (i, m) = same_Some (from, x) (i, m) here in
          let place : from ≡ i = ap (λ p. p.0) same in
          (0, omega (arith, place), ap Some (ap (λ p. p.1) same), ap (λ n. n % desks) (sym place) ∙ eqb-true (from % desks) number e)
      by_test true e (suc n) here rest = further (rest n here)
      by_test false e n here rest = further (rest n here)

  -- and each report at such a place is one of the share
  pub in_share : (items : List AgentToServer) (from j : ℕ) (m : AgentToServer) → slice_get items j ≡ Some m → (from + j) % desks ≡ number
      → (k : ℕ) × (slice_get (share from items) k ≡ Some (from + j, m))
  in_share [] from j m at own = absurd (none-some m at)
  in_share (x ∷ items) from zero m at own = by_test (from % desks == number) refl
    where
      by_test : (b : Bool) → (from % desks == number) ≡ b → (k : ℕ) × (slice_get (cond b ((from, x) ∷ share (from + 1) items) (share (from + 1) items)) k ≡ Some (from + 0, m))
      by_test true e = (0, ap Some (λ i. (let z : from ≡ from + 0 = omega arith in z i, same_Some x m at i)))
      by_test false e = let z : from + 0 ≡ from = omega arith in absurd (eqb-false (from % desks) number e (ap (λ n. n % desks) (sym z) ∙ own))
  in_share (x ∷ items) from (suc j) m at own =
      let z : (from + 1) + j ≡ from + suc j = omega arith in
      by_test (from % desks == number) (in_share items (from + 1) j m at (ap (λ n. n % desks) z ∙ own)) z
    where
      by_test : (b : Bool) → ((k : ℕ) × (slice_get (share (from + 1) items) k ≡ Some ((from + 1) + j, m))) → (from + 1) + j ≡ from + suc j
          → (k : ℕ) × (slice_get (cond b ((from, x) ∷ share (from + 1) items) (share (from + 1) items)) k ≡ Some (from + suc j, m))
      by_test true r z = (suc r.0, r.1 ∙ ap (λ n. Some (n, m)) z)
      by_test false r z = (r.0, r.1 ∙ ap (λ n. Some (n, m)) z)

  -- the places of the share rise
  pub share_rises : (items : List AgentToServer) (from k l i j : ℕ) (m t : AgentToServer) → k < l → slice_get (share from items) k ≡ Some (i, m) → slice_get (share from items) l ≡ Some (j, t) → i < j
  share_rises [] from k l i j m t before at then = absurd (none-some (i, m) at)
  share_rises (x ∷ items) from k l i j m t before at then = by_test (from % desks == number) k l before at then (λ a b lt here there. share_rises items (from + 1) a b i j m t lt here there)
    where
      by_test : (b : Bool) → (k l : ℕ) → k < l → slice_get (cond b ((from, x) ∷ share (from + 1) items) (share (from + 1) items)) k ≡ Some (i, m)
          → slice_get (cond b ((from, x) ∷ share (from + 1) items) (share (from + 1) items)) l ≡ Some (j, t)
          → ((c d : ℕ) → c < d → slice_get (share (from + 1) items) c ≡ Some (i, m) → slice_get (share (from + 1) items) d ≡ Some (j, t) → i < j) → i < j
      by_test true k zero lt a b rest = absurd (omega (arith, lt))
      by_test true zero (suc l) lt a b rest =
          let place : from ≡ i = ap (λ p. p.0) (same_Some (from, x) (i, m) a) in
          let later = of_list items (from + 1) l j t b in
          let there = later.1 in
          omega (arith, place, there)
      by_test true (suc k) (suc l) lt a b rest = rest k l (omega (arith, lt)) a b
      by_test false k l lt a b rest = rest k l lt a b

  -- with one report more
  pub share-push : (items : List AgentToServer) (from : ℕ) (m : AgentToServer) → share from (items ++ m ∷ []) ≡ share from items ++ cond ((from + length items) % desks == number) ((from + length items, m) ∷ []) []
  share-push items from m =
      ap (filter (λ p. p.0 % desks == number)) (enumerate-push items from)
      ∙ filter-append (λ p. p.0 % desks == number) (enumerate_from from items) ((from + length items, m) ∷ [])
    where
      enumerate-push : (xs : List AgentToServer) (n : ℕ) → enumerate_from n (xs ++ m ∷ []) ≡ enumerate_from n xs ++ (n + length xs, m) ∷ []
      enumerate-push [] n = (let z : n ≡ n + 0 = omega arith in ap (λ k. (k, m) ∷ []) z)
      enumerate-push (x ∷ xs) n =
          (let z : (n + 1) + length xs ≡ n + length (x ∷ xs) = omega arith in
          ap (λ ps. (n, x) ∷ ps) (enumerate-push xs (n + 1) ∙ ap (λ k. enumerate_from (n + 1) xs ++ (k, m) ∷ []) z))
