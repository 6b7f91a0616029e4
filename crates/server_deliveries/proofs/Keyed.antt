-- Lists under keys, after one of them changed.
use Rattle.std.proofs.Common.{◌≡◌, ℕ, List, [], ◌∷◌, Bool, true, false, not, cond, ◌==◌, take, if◌then◌else◌, ◌||◌, Option, None, Vec, Global, refl, sym, ap, ◌∙◌, ◌+◌, ◌<◌, length, slice_index_or, add-one}
use Rattle.std.proofs.Math.Seq.{take-suc}
use Rattle.std.proofs.lemmas.List.Folds.{list_any-append}
use Rattle.std.specs.Map.{lookup}
use Rattle.std.specs.BTreeMap.{BTreeMap, is_at}
use Rattle.std.specs.Ordering.{nat_cmp}
use Rattle.std.specs.Cmp.Lexicographic.{slice_cmp, bytes_decides}
use Rattle.std.specs.Str.{bytes_eq}
use Rattle.std.proofs.lemmas.Map.Text.{is_eq-slice_cmp}
use Rattle.server_core.specs.History.{is_among}
use Rattle.server_deliveries.specs.Lists.{items_in, conns_at}
use Rattle.server_deliveries.specs.Routes.{without}

-- the list of one key became f of what it was
pub keyed : (m n : BTreeMap (List ℕ) (Vec ℕ Global)) (uid : List ℕ) (w : Option (Vec ℕ Global)) (f : List ℕ → List ℕ)
    → ((q : List ℕ) → lookup (is_at (slice_cmp nat_cmp q)) n.entries ≡ cond (is_at (slice_cmp nat_cmp uid) q) w (lookup (is_at (slice_cmp nat_cmp q)) m.entries))
    → items_in w ≡ f (conns_at m uid)
    → (u : List ℕ) → conns_at n u ≡ (if bytes_eq uid u then f (conns_at m u) else conns_at m u)
keyed m n uid w f at is u = ap items_in (at u ∙ ap (λ b. cond b w (lookup (is_at (slice_cmp nat_cmp u)) m.entries)) (is_eq-slice_cmp uid u)) ∙ by_test (bytes_eq uid u) refl
  where
    by_test : (b : Bool) → bytes_eq uid u ≡ b → items_in (cond b w (lookup (is_at (slice_cmp nat_cmp u)) m.entries)) ≡ (if b then f (conns_at m u) else conns_at m u)
    by_test true e = is ∙ ap (λ v. f (conns_at m v)) ((bytes_decides uid u).0 e)
    by_test false e = refl

-- a list that became empty may be taken out
pub keyed_out : (m n o : BTreeMap (List ℕ) (Vec ℕ Global)) (uid : List ℕ) (f : List ℕ → List ℕ)
    → ((u : List ℕ) → conns_at n u ≡ (if bytes_eq uid u then f (conns_at m u) else conns_at m u))
    → ((q : List ℕ) → lookup (is_at (slice_cmp nat_cmp q)) o.entries ≡ cond (is_at (slice_cmp nat_cmp uid) q) None (lookup (is_at (slice_cmp nat_cmp q)) n.entries))
    → f (conns_at m uid) ≡ []
    → (u : List ℕ) → conns_at o u ≡ (if bytes_eq uid u then f (conns_at m u) else conns_at m u)
keyed_out m n o uid f changed at is u =
    ap items_in (at u ∙ ap (λ b. cond b None (lookup (is_at (slice_cmp nat_cmp u)) n.entries)) (is_eq-slice_cmp uid u)) ∙ by_test (bytes_eq uid u) refl (changed u)
  where
    by_test : (b : Bool) → bytes_eq uid u ≡ b → conns_at n u ≡ (if b then f (conns_at m u) else conns_at m u)
        → items_in (cond b None (lookup (is_at (slice_cmp nat_cmp u)) n.entries)) ≡ (if b then f (conns_at m u) else conns_at m u)
    by_test true e h = sym is ∙ ap (λ v. f (conns_at m v)) ((bytes_decides uid u).0 e)
    by_test false e h = h

without_twice : (conn : ℕ) (xs : List ℕ) → without conn (without conn xs) ≡ without conn xs
without_twice conn [] = refl
without_twice conn (x ∷ xs) = by_test (x == conn) refl (without_twice conn xs)
  where
    by_test : (b : Bool) → (x == conn) ≡ b → without conn (without conn xs) ≡ without conn xs → without conn (if not b then x ∷ without conn xs else without conn xs) ≡ (if not b then x ∷ without conn xs else without conn xs)
    by_test true e more = more
    by_test false e more = rw (e, more) refl

-- one more of them
pub without_more : (conn : ℕ) (a b c : List ℕ) (p q : Bool) → b ≡ (if p then without conn a else a) → c ≡ (if q then without conn b else b) → c ≡ (if p || q then without conn a else a)
without_more conn a b c true true h k = k ∙ ap (without conn) h ∙ without_twice conn a
without_more conn a b c true false h k = k ∙ h
without_more conn a b c false true h k = k ∙ ap (without conn) h
without_more conn a b c false false h k = k ∙ h

-- the list with one more agent
among_more : (uids : List (List ℕ)) (i : ℕ) (u : List ℕ) → i < length uids → is_among (take (i + 1) uids) u ≡ (is_among (take i uids) u || bytes_eq (slice_index_or uids i []) u)
among_more uids i u within =
    ap (λ n. is_among (take n uids) u) (add-one i) ∙ ap (λ l. is_among l u) (take-suc uids i [] within) ∙ list_any-append (λ v. bytes_eq v u) (take i uids) (slice_index_or uids i [] ∷ [])
    ∙ ap (λ b. is_among (take i uids) u || b) (or_false (bytes_eq (slice_index_or uids i []) u))
  where
    or_false : (b : Bool) → (b || false) ≡ b
    or_false true = refl
    or_false false = refl

pub dropped_more : (conn : ℕ) (a b c : List ℕ) (uids : List (List ℕ)) (i : ℕ) (u : List ℕ) → i < length uids → b ≡ (if is_among (take i uids) u then without conn a else a)
    → c ≡ (if bytes_eq (slice_index_or uids i []) u then without conn b else b) → c ≡ (if is_among (take (i + 1) uids) u then without conn a else a)
dropped_more conn a b c uids i u within h k =
    without_more conn a b c (is_among (take i uids) u) (bytes_eq (slice_index_or uids i []) u) h k ∙ ap (λ (t : Bool). if t then without conn a else a) (sym (among_more uids i u within))
