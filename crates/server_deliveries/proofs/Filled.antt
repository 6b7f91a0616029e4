-- That no list is empty, after one of them changed.
use Rattle.std.proofs.Common.{◌≡◌, ◌≢◌, ℕ, List, [], ◌∷◌, ◌++◌, Bool, true, false, cond, Option, None, IfSome, Vec, Global}
use Rattle.std.specs.Map.{lookup}
use Rattle.std.specs.BTreeMap.{BTreeMap, is_at}
use Rattle.std.specs.Ordering.{nat_cmp}
use Rattle.std.specs.Cmp.Lexicographic.{slice_cmp}
use Rattle.server_deliveries.specs.Lists.{AreFilled, AreOwned}

-- where it isn't empty, or was taken out
kept : {T : Type 0} (b : Bool) (w old : Option (Vec T Global)) → IfSome w (λ list. list.items ≢ []) → IfSome old (λ list. list.items ≢ []) → IfSome (cond b w old) (λ list. list.items ≢ [])
kept true w old here there = here
kept false w old here there = there

pub filled : (m n : BTreeMap (List ℕ) (Vec ℕ Global)) (uid : List ℕ) (w : Option (Vec ℕ Global))
    → ((q : List ℕ) → lookup (is_at (slice_cmp nat_cmp q)) n.entries ≡ cond (is_at (slice_cmp nat_cmp uid) q) w (lookup (is_at (slice_cmp nat_cmp q)) m.entries))
    → IfSome w (λ list. list.items ≢ []) → AreFilled m → AreFilled n
filled m n uid w at here whole u = rw (at u) (kept (is_at (slice_cmp nat_cmp uid) u) w (lookup (is_at (slice_cmp nat_cmp u)) m.entries) here (whole u))

pub owned : (m n : BTreeMap ℕ (Vec (List ℕ) Global)) (conn : ℕ) (w : Option (Vec (List ℕ) Global))
    → ((q : ℕ) → lookup (is_at (nat_cmp q)) n.entries ≡ cond (is_at (nat_cmp conn) q) w (lookup (is_at (nat_cmp q)) m.entries))
    → IfSome w (λ list. list.items ≢ []) → AreOwned m → AreOwned n
owned m n conn w at here whole c = rw (at c) (kept (is_at (nat_cmp conn) c) w (lookup (is_at (nat_cmp c)) m.entries) here (whole c))

-- a list that became empty, and was taken out
pub filled_out : (m n o : BTreeMap (List ℕ) (Vec ℕ Global)) (uid : List ℕ) (w : Option (Vec ℕ Global))
    → ((q : List ℕ) → lookup (is_at (slice_cmp nat_cmp q)) n.entries ≡ cond (is_at (slice_cmp nat_cmp uid) q) w (lookup (is_at (slice_cmp nat_cmp q)) m.entries))
    → ((q : List ℕ) → lookup (is_at (slice_cmp nat_cmp q)) o.entries ≡ cond (is_at (slice_cmp nat_cmp uid) q) None (lookup (is_at (slice_cmp nat_cmp q)) n.entries))
    → AreFilled m → AreFilled o
filled_out m n o uid w at out whole u =
    rw (out u, at u) (by_key (is_at (slice_cmp nat_cmp uid) u) (whole u))
  where
    by_key : (b : Bool) → IfSome (lookup (is_at (slice_cmp nat_cmp u)) m.entries) (λ list. list.items ≢ [])
        → IfSome (cond b None (cond b w (lookup (is_at (slice_cmp nat_cmp u)) m.entries))) (λ list. list.items ≢ [])
    by_key true whole = tt
    by_key false whole = whole

pub not_nil : {A : Type 0} (xs : List A) (x : A) → xs ++ x ∷ [] ≢ []
not_nil [] x is = absurd (cc is)
not_nil (y ∷ xs) x is = absurd (cc is)
