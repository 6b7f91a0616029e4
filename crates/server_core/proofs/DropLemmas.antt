-- What `drop_row` of specs gives, and what stays of rows in order.
use Rattle.std.proofs.Common.{◌≡◌, ℕ, List, [], ◌∷◌, map, filter, Bool, true, false, cond, not, ◌||◌, Some, None, is_some, fold, refl, sym, ◌∙◌, ap}
use Rattle.std.proofs.lemmas.Bool.{false≢true}
use Rattle.std.specs.declared.cmp.Ordering.{Ordering}
use Rattle.std.specs.declared.cmp.Ordering.TheVariants.{Less, Equal, Greater}
use Rattle.std.specs.Ordering.{match_ordering}
use Rattle.std.specs.Cmp.Lexicographic.{bytes_decides}
use Rattle.std.specs.Str.{bytes_eq}
use Rattle.std.proofs.lemmas.Map.Lookups.{exact_bytes}
use Rattle.server_core.specs.Rows.{byte_cmp, IsAscending, drop_row, find_row, put_uid}
use Rattle.server_core.specs.History.{ascending_uids, is_among}
use Rattle.server_core.proofs.RowLemmas.{IsAscending-put_uid, IsBelowAll, IsBelowAll-trans, apart_from_less, bytes_eq_other, bytes_eq_same}

module _ {T : Type 0} (uid_of : T → List ℕ) where
  pub drop-cons : (r : T) (rows : List T) (u : List ℕ) (b : Bool) → bytes_eq (uid_of r) u ≡ b → drop_row uid_of (r ∷ rows) u ≡ cond b (drop_row uid_of rows u) (r ∷ drop_row uid_of rows u)
  drop-cons r rows u b e = ap (λ t. cond (not t) (r ∷ drop_row uid_of rows u) (drop_row uid_of rows u)) e ∙ by_test b
    where
      by_test : (b : Bool) → cond (not b) (r ∷ drop_row uid_of rows u) (drop_row uid_of rows u) ≡ cond b (drop_row uid_of rows u) (r ∷ drop_row uid_of rows u)
      by_test true = refl
      by_test false = refl

  -- where the identifier has no row all stay
  pub drop-absent : (rows : List T) (u : List ℕ) → find_row uid_of rows u ≡ None → drop_row uid_of rows u ≡ rows
  drop-absent [] u absent = refl
  drop-absent (r ∷ rows) u absent = by_test (drop-absent rows u) (bytes_eq (uid_of r) u) absent
    where
      by_test : (find_row uid_of rows u ≡ None → drop_row uid_of rows u ≡ rows) → (b : Bool) → cond b (Some r) (find_row uid_of rows u) ≡ None
          → cond (not b) (r ∷ drop_row uid_of rows u) (drop_row uid_of rows u) ≡ r ∷ rows
      by_test rest true none = absurd (false≢true (sym (ap is_some none)))
      by_test rest false none = ap (λ rs. r ∷ rs) (rest none)

  -- and so where it is below all
  pub drop-below : (rows : List T) (u : List ℕ) → IsBelowAll u (map uid_of rows) → drop_row uid_of rows u ≡ rows
  drop-below [] u below = refl
  drop-below (r ∷ rows) u below =
      drop-cons r rows u false (bytes_eq_other (uid_of r) u (apart_from_less u (uid_of r) below.0))
      ∙ ap (λ rs. r ∷ rs) (drop-below rows u below.1)

  -- the row that was dropped isn't found, and others are as before
  pub find-drop_own : (rows : List T) (u : List ℕ) → find_row uid_of (drop_row uid_of rows u) u ≡ None
  find-drop_own [] u = refl
  find-drop_own (r ∷ rows) u = by_test (bytes_eq (uid_of r) u) refl (find-drop_own rows u)
    where
      by_test : (b : Bool) → bytes_eq (uid_of r) u ≡ b → find_row uid_of (drop_row uid_of rows u) u ≡ None
          → find_row uid_of (cond (not b) (r ∷ drop_row uid_of rows u) (drop_row uid_of rows u)) u ≡ None
      by_test true e rest = rest
      by_test false e rest = ap (λ t. cond t (Some r) (find_row uid_of (drop_row uid_of rows u) u)) e ∙ rest

  pub find-drop_other : (rows : List T) (u v : List ℕ) → bytes_eq u v ≡ false → find_row uid_of (drop_row uid_of rows u) v ≡ find_row uid_of rows v
  find-drop_other [] u v apart = refl
  find-drop_other (r ∷ rows) u v apart = by_test (bytes_eq (uid_of r) u) refl (find-drop_other rows u v apart)
    where
      by_test : (b : Bool) → bytes_eq (uid_of r) u ≡ b → find_row uid_of (drop_row uid_of rows u) v ≡ find_row uid_of rows v
          → find_row uid_of (cond (not b) (r ∷ drop_row uid_of rows u) (drop_row uid_of rows u)) v ≡ find_row uid_of (r ∷ rows) v
      by_test true e rest = rest ∙ sym (ap (λ t. cond t (Some r) (find_row uid_of rows v)) (ap (λ w. bytes_eq w v) ((bytes_decides (uid_of r) u).0 e) ∙ apart))
      by_test false e rest = ap (λ o. cond (bytes_eq (uid_of r) v) (Some r) o) rest

  -- what stays is in the order of before
  pub below-filter : (p : T → Bool) (low : List ℕ) (rows : List T) → IsBelowAll low (map uid_of rows) → IsBelowAll low (map uid_of (filter p rows))
  below-filter p low [] below = tt
  below-filter p low (r ∷ rows) below = by_test (p r) (below-filter p low rows below.1)
    where
      by_test : (b : Bool) → IsBelowAll low (map uid_of (filter p rows)) → IsBelowAll low (map uid_of (cond b (r ∷ filter p rows) (filter p rows)))
      by_test true rest = (below.0, rest)
      by_test false rest = rest

  pub ascending-filter : (p : T → Bool) (rows : List T) → IsAscending (map uid_of rows) → IsAscending (map uid_of (filter p rows))
  ascending-filter p [] up = tt
  ascending-filter p (r ∷ rows) up = by_test (p r) (ascending-filter p rows up.1)
    where
      by_test : (b : Bool) → IsAscending (map uid_of (filter p rows)) → IsAscending (map uid_of (cond b (r ∷ filter p rows) (filter p rows)))
      by_test true rest = (below-filter p (uid_of r) rows up.0, rest)
      by_test false rest = rest

  -- rows before all that are dropped stay at the front
  pub drops-below : (us : List (List ℕ)) (r : T) (rows : List T) → IsBelowAll (uid_of r) us → fold (drop_row uid_of) (r ∷ rows) us ≡ r ∷ fold (drop_row uid_of) rows us
  drops-below [] r rows below = refl
  drops-below (u ∷ us) r rows below =
      ap (λ rs. fold (drop_row uid_of) rs us) (drop-cons r rows u false (bytes_eq_other (uid_of r) u (λ same. apart_from_less (uid_of r) u below.0 (sym same))))
      ∙ drops-below us r (drop_row uid_of rows u) below.1

  -- a drop among rows made of identifiers
  pub drop-map : (f g : List ℕ → T) (v : List ℕ) → ((u : List ℕ) → uid_of (f u) ≡ u) → ((u : List ℕ) → bytes_eq v u ≡ false → g u ≡ f u)
      → (us : List (List ℕ)) → drop_row uid_of (map f us) v ≡ map g (drop_row (λ u. u) us v)
  drop-map f g v own agree [] = refl
  drop-map f g v own agree (u ∷ us) =
      ap (λ w. cond (not (bytes_eq w v)) (f u ∷ drop_row uid_of (map f us) v) (drop_row uid_of (map f us) v)) (own u)
      ∙ by_test (bytes_eq u v) refl (drop-map f g v own agree us)
    where
      turned : (u v : List ℕ) → bytes_eq u v ≡ false → bytes_eq v u ≡ false
      turned u v e = bytes_eq_other v u (λ same. false≢true (sym e ∙ ap (bytes_eq u) same ∙ bytes_eq_same u))

      by_test : (b : Bool) → bytes_eq u v ≡ b → drop_row uid_of (map f us) v ≡ map g (drop_row (λ u. u) us v)
          → cond (not b) (f u ∷ drop_row uid_of (map f us) v) (drop_row uid_of (map f us) v) ≡ map g (cond (not b) (u ∷ drop_row (λ u. u) us v) (drop_row (λ u. u) us v))
      by_test true e rest = rest
      by_test false e rest = λ i. sym (agree u (turned u v e)) i ∷ rest i

-- ---- identifiers

abbrev pub drop_uid : List (List ℕ) → List ℕ → List (List ℕ)
drop_uid us v = drop_row (λ u. u) us v

drop_uid-cons : (u : List ℕ) (us : List (List ℕ)) (v : List ℕ) (b : Bool) → bytes_eq u v ≡ b → drop_uid (u ∷ us) v ≡ cond b (drop_uid us v) (u ∷ drop_uid us v)
drop_uid-cons u us v b e = drop-cons (λ u. u) u us v b e

below-drop_uid : (low : List ℕ) (us : List (List ℕ)) (v : List ℕ) → IsBelowAll low us → IsBelowAll low (drop_uid us v)
below-drop_uid low [] v below = tt
below-drop_uid low (u ∷ us) v below = by_test (bytes_eq u v) (below-drop_uid low us v below.1)
  where
    by_test : (b : Bool) → IsBelowAll low (drop_uid us v) → IsBelowAll low (cond (not b) (u ∷ drop_uid us v) (drop_uid us v))
    by_test true rest = rest
    by_test false rest = (below.0, rest)

put-first : (us : List (List ℕ)) (w : List ℕ) → IsBelowAll w us → put_uid us w ≡ w ∷ us
put-first [] w below = refl
put-first (u ∷ us) w below = ap (λ o. match_ordering o (w ∷ u ∷ us) (w ∷ us) (u ∷ put_uid us w)) below.0

-- a put of another one
drop-put_other : (us : List (List ℕ)) (w v : List ℕ) → IsAscending us → bytes_eq w v ≡ false → drop_uid (put_uid us w) v ≡ put_uid (drop_uid us v) w
drop-put_other [] w v up apart = drop_uid-cons w [] v false apart
drop-put_other (u ∷ us) w v up apart = by_case (byte_cmp w u) refl (drop-put_other us w v up.1 apart)
  where
    put-cons : (rest : List (List ℕ)) (o : Ordering) → byte_cmp w u ≡ o → put_uid (u ∷ rest) w ≡ match_ordering o (w ∷ u ∷ rest) (w ∷ rest) (u ∷ put_uid rest w)
    put-cons rest o e = ap (λ x. match_ordering x (w ∷ u ∷ rest) (w ∷ rest) (u ∷ put_uid rest w)) e

    later : (b : Bool) → byte_cmp w u ≡ Greater → drop_uid (put_uid us w) v ≡ put_uid (drop_uid us v) w
        → cond (not b) (u ∷ drop_uid (put_uid us w) v) (drop_uid (put_uid us w) v) ≡ put_uid (cond (not b) (u ∷ drop_uid us v) (drop_uid us v)) w
    later true e rest = rest
    later false e rest = ap (λ xs. u ∷ xs) rest ∙ sym (put-cons (drop_uid us v) Greater e)

    by_case : (o : Ordering) → byte_cmp w u ≡ o → drop_uid (put_uid us w) v ≡ put_uid (drop_uid us v) w
        → drop_uid (match_ordering o (w ∷ u ∷ us) (w ∷ us) (u ∷ put_uid us w)) v ≡ put_uid (drop_uid (u ∷ us) v) w
    by_case Less e rest =
        drop_uid-cons w (u ∷ us) v false apart
        ∙ sym (put-first (drop_uid (u ∷ us) v) w (below-drop_uid w (u ∷ us) v (e, IsBelowAll-trans w u us e up.0)))
    by_case Equal e rest =
        drop_uid-cons w us v false apart
        ∙ sym (ap (λ xs. put_uid xs w) (drop_uid-cons u us v false (ap (λ x. bytes_eq x v) (sym (exact_bytes w u e)) ∙ apart)) ∙ put-cons (drop_uid us v) Equal e)
    by_case Greater e rest = later (bytes_eq u v) e rest

-- a put of the one that is dropped
drop-put_own : (us : List (List ℕ)) (v : List ℕ) → drop_uid (put_uid us v) v ≡ drop_uid us v
drop-put_own [] v = drop_uid-cons v [] v true (bytes_eq_same v)
drop-put_own (u ∷ us) v = by_case (byte_cmp v u) refl (drop-put_own us v)
  where
    by_case : (o : Ordering) → byte_cmp v u ≡ o → drop_uid (put_uid us v) v ≡ drop_uid us v
        → drop_uid (match_ordering o (v ∷ u ∷ us) (v ∷ us) (u ∷ put_uid us v)) v ≡ drop_uid (u ∷ us) v
    by_case Less e rest = drop_uid-cons v (u ∷ us) v true (bytes_eq_same v)
    by_case Equal e rest = ap (λ x. drop_uid (x ∷ us) v) (exact_bytes v u e)
    by_case Greater e rest = ap (λ xs. cond (not (bytes_eq u v)) (u ∷ xs) xs) rest

drop-fold : (us vs : List (List ℕ)) (v : List ℕ) → IsAscending us → drop_uid (fold put_uid us vs) v ≡ fold put_uid (drop_uid us v) (drop_uid vs v)
drop-fold us [] v up = refl
drop-fold us (w ∷ vs) v up = drop-fold (put_uid us w) vs v (IsAscending-put_uid us w up) ∙ by_test (bytes_eq w v) refl
  where
    by_test : (b : Bool) → bytes_eq w v ≡ b → fold put_uid (drop_uid (put_uid us w) v) (drop_uid vs v) ≡ fold put_uid (drop_uid us v) (cond (not b) (w ∷ drop_uid vs v) (drop_uid vs v))
    by_test true e = ap (λ xs. fold put_uid xs (drop_uid vs v)) (ap (λ x. drop_uid (put_uid us x) v) ((bytes_decides w v).0 e) ∙ drop-put_own us v)
    by_test false e = ap (λ xs. fold put_uid xs (drop_uid vs v)) (drop-put_other us w v up e)

pub drop-ascending_uids : (vs : List (List ℕ)) (v : List ℕ) → drop_uid (ascending_uids vs) v ≡ ascending_uids (drop_uid vs v)
drop-ascending_uids vs v = drop-fold [] vs v tt

pub is_among-drop_other : (us : List (List ℕ)) (v u : List ℕ) → bytes_eq v u ≡ false → is_among (drop_uid us v) u ≡ is_among us u
is_among-drop_other [] v u apart = refl
is_among-drop_other (w ∷ us) v u apart = by_test (bytes_eq w v) refl (is_among-drop_other us v u apart)
  where
    by_test : (b : Bool) → bytes_eq w v ≡ b → is_among (drop_uid us v) u ≡ is_among us u → is_among (cond (not b) (w ∷ drop_uid us v) (drop_uid us v)) u ≡ is_among (w ∷ us) u
    by_test true e rest = rest ∙ sym (ap (λ b. b || is_among us u) (ap (λ x. bytes_eq x u) ((bytes_decides w v).0 e) ∙ apart))
    by_test false e rest = ap (λ b. bytes_eq w u || b) rest
