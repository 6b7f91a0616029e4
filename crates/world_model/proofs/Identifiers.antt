-- Ascending identifiers, and how many there can be.
use Rattle.std.proofs.Common.{◌≡◌, ℕ, suc, ◌≤◌, List, [], ◌∷◌, length, map, Bool, true, false, cond, ◌||◌, None, Some, refl, sym, ◌∙◌, ap, arith}
use Rattle.std.proofs.lemmas.Bool.{false≢true}
use Rattle.std.specs.declared.cmp.Ordering.{Ordering}
use Rattle.std.specs.declared.cmp.Ordering.TheVariants.{Less, Equal, Greater}
use Rattle.std.specs.Ordering.{match_ordering}
use Rattle.std.specs.Str.{bytes_eq}
use Rattle.server_core.specs.Rows.{byte_cmp, IsAscending, find_row, put_row, put_uid}
use Rattle.server_core.specs.History.{is_among}
use Rattle.world_model.proofs.Below.{KeepsOrder}
use Rattle.world_model.proofs.Places.{none≢some, bytes_self, bytes_same}

-- each identifier is there once
abbrev pub IsDistinct : List (List ℕ) → Type 0
IsDistinct [] = Unit {0}
IsDistinct (u ∷ us) = (is_among us u ≡ false) × IsDistinct us

pub distinct_ascending : KeepsOrder → (us : List (List ℕ)) → IsAscending us → IsDistinct us
distinct_ascending order [] up = tt
distinct_ascending order (u ∷ us) up = (order.once u us up, distinct_ascending order us up.1)

-- without the first that is this one
abbrev drop_first : List ℕ → List (List ℕ) → List (List ℕ)
drop_first u [] = []
drop_first u (v ∷ vs) = cond (bytes_eq v u) vs (v ∷ drop_first u vs)

drop_length : (u : List ℕ) (vs : List (List ℕ)) → is_among vs u ≡ true → length vs ≡ suc (length (drop_first u vs))
drop_length u [] among = absurd (false≢true among)
drop_length u (v ∷ vs) among = by_test (λ h. drop_length u vs h) (bytes_eq v u) among
  where
    by_test : (is_among vs u ≡ true → length vs ≡ suc (length (drop_first u vs))) → (t : Bool) → (t || is_among vs u) ≡ true
        → suc (length vs) ≡ suc (length (cond t vs (v ∷ drop_first u vs)))
    by_test rest true h = refl
    by_test rest false h = ap (λ n. suc n) (rest h)

drop_among : (u w : List ℕ) (vs : List (List ℕ)) → bytes_eq u w ≡ false → is_among vs w ≡ true → is_among (drop_first u vs) w ≡ true
drop_among u w [] apart among = absurd (false≢true among)
drop_among u w (v ∷ vs) apart among = by_test (λ h. drop_among u w vs apart h) (bytes_eq v u) refl
  where
    by_rest : (is_among vs w ≡ true → is_among (drop_first u vs) w ≡ true) → (t : Bool) → (t || is_among vs w) ≡ true → (t || is_among (drop_first u vs) w) ≡ true
    by_rest rest true h = refl
    by_rest rest false h = rest h

    by_test : (is_among vs w ≡ true → is_among (drop_first u vs) w ≡ true) → (t : Bool) → bytes_eq v u ≡ t → is_among (cond t vs (v ∷ drop_first u vs)) w ≡ true
    by_test rest true is = sym (ap (λ b. b || is_among vs w) (ap (λ x. bytes_eq x w) (bytes_same v u is) ∙ apart)) ∙ among
    by_test rest false is = by_rest rest (bytes_eq v w) among

-- identifiers that are each there once, and all among others, are no more than these
pub no_more : (us vs : List (List ℕ)) → IsDistinct us → ((u : List ℕ) → is_among us u ≡ true → is_among vs u ≡ true) → length us ≤ length vs
no_more [] vs distinct all = omega (arith)
no_more (u ∷ us) vs distinct all =
    omega (arith, no_more us (drop_first u vs) distinct.1 more, drop_length u vs (all u (ap (λ b. b || is_among us u) (bytes_self u))))
  where
    more : (w : List ℕ) → is_among us w ≡ true → is_among (drop_first u vs) w ≡ true
    more w among = drop_among u w vs (by_test (bytes_eq u w) refl) (all w (or_true (bytes_eq u w) (is_among us w) among))
      where
        or_true : (a b : Bool) → b ≡ true → (a || b) ≡ true
        or_true true b h = refl
        or_true false b h = h

        by_test : (t : Bool) → bytes_eq u w ≡ t → t ≡ false
        by_test true is = absurd (false≢true (sym (ap (is_among us) (sym (bytes_same u w is)) ∙ distinct.0) ∙ among))
        by_test false is = refl

-- the identifiers of rows with one more
pub put_uids : {T : Type 0} (uid_of : T → List ℕ) (rows : List T) (row : T) → map uid_of (put_row uid_of rows row) ≡ put_uid (map uid_of rows) (uid_of row)
put_uids uid_of [] row = refl
put_uids uid_of (r ∷ rows) row = by_case (put_uids uid_of rows row) (byte_cmp (uid_of row) (uid_of r))
  where
    by_case : map uid_of (put_row uid_of rows row) ≡ put_uid (map uid_of rows) (uid_of row) → (o : Ordering)
        → map uid_of (match_ordering o (row ∷ r ∷ rows) (row ∷ rows) (r ∷ put_row uid_of rows row))
        ≡ match_ordering o (uid_of row ∷ uid_of r ∷ map uid_of rows) (uid_of row ∷ map uid_of rows) (uid_of r ∷ put_uid (map uid_of rows) (uid_of row))
    by_case rest Less = refl
    by_case rest Equal = refl
    by_case rest Greater = ap (λ us. uid_of r ∷ us) rest

-- an identifier without a row is none of theirs
pub not_among : {T : Type 0} (uid_of : T → List ℕ) (rows : List T) (uid : List ℕ) → find_row uid_of rows uid ≡ None → is_among (map uid_of rows) uid ≡ false
not_among uid_of [] uid none = refl
not_among uid_of (r ∷ rows) uid none = by_test (λ h. not_among uid_of rows uid h) (bytes_eq (uid_of r) uid) none
  where
    by_test : (find_row uid_of rows uid ≡ None → is_among (map uid_of rows) uid ≡ false) → (t : Bool) → cond t (Some r) (find_row uid_of rows uid) ≡ None
        → (t || is_among (map uid_of rows) uid) ≡ false
    by_test rest true h = absurd (none≢some (sym h))
    by_test rest false h = rest h
