-- What is found among rows once one was put there, or dropped.
use Rattle.std.proofs.Common.{◌≡◌, ◌≢◌, ℕ, List, [], ◌∷◌, map, Bool, true, false, cond, not, ◌||◌, Option, Some, None, refl, sym, ◌∙◌, ap, subst}
use Rattle.std.proofs.lemmas.Bool.{false_from_ne_true}
use Rattle.std.specs.declared.cmp.Ordering.{Ordering}
use Rattle.std.specs.declared.cmp.Ordering.TheVariants.{Less, Equal, Greater}
use Rattle.std.specs.Ordering.{match_ordering}
use Rattle.std.specs.Cmp.Lexicographic.{bytes_decides}
use Rattle.std.specs.Str.{bytes_eq}
use Rattle.std.specs.List.{AllByRecursion}
use Rattle.std.proofs.lemmas.Cmp.{nat_list_cmp_total, tied_itself}
use Rattle.std.proofs.lemmas.Map.Lookups.{exact_bytes}
use Rattle.server_core.specs.Rows.{byte_cmp, IsAscending, drop_row, find_row, put_row}
use Rattle.server_core.specs.History.{is_among}
use Rattle.world_model.proofs.Places.{none≢some, some_same, bytes_self, bytes_same}

-- an identifier is not above itself
pub apart_from_greater : (u v : List ℕ) → byte_cmp u v ≡ Greater → v ≢ u
apart_from_greater u v greater same = let tied : byte_cmp u v ≡ Equal = subst (λ w. byte_cmp u w ≡ Equal) (sym same) (tied_itself nat_list_cmp_total u) in cc

pub bytes_other : (u v : List ℕ) → u ≢ v → bytes_eq u v ≡ false
bytes_other u v apart = false_from_ne_true (bytes_eq u v) (λ e. apart ((bytes_decides u v).0 e))

module _ {T : Type 0} (uid_of : T → List ℕ) where
  -- what is found is the identifier's own row
  pub found_own : (rows : List T) (uid : List ℕ) (row : T) → find_row uid_of rows uid ≡ Some row → uid_of row ≡ uid
  found_own [] uid row is = absurd (none≢some is)
  found_own (r ∷ rows) uid row is = by_test (found_own rows uid row) (bytes_eq (uid_of r) uid) refl is
    where
      by_test : (find_row uid_of rows uid ≡ Some row → uid_of row ≡ uid) → (t : Bool) → bytes_eq (uid_of r) uid ≡ t
          → cond t (Some r) (find_row uid_of rows uid) ≡ Some row → uid_of row ≡ uid
      by_test rest true same it = ap uid_of (sym (some_same it)) ∙ bytes_same (uid_of r) uid same
      by_test rest false other it = rest it

  -- it is found
  pub find-put_own : (rows : List T) (row : T) → find_row uid_of (put_row uid_of rows row) (uid_of row) ≡ Some row
  find-put_own [] row = ap (λ b. cond b (Some row) None) (bytes_self (uid_of row))
  find-put_own (r ∷ rows) row = by_case (byte_cmp (uid_of row) (uid_of r)) refl (find-put_own rows row)
    where
      by_case : (o : Ordering) → byte_cmp (uid_of row) (uid_of r) ≡ o → find_row uid_of (put_row uid_of rows row) (uid_of row) ≡ Some row
          → find_row uid_of (match_ordering o (row ∷ r ∷ rows) (row ∷ rows) (r ∷ put_row uid_of rows row)) (uid_of row) ≡ Some row
      by_case Less e rest = ap (λ b. cond b (Some row) (find_row uid_of (r ∷ rows) (uid_of row))) (bytes_self (uid_of row))
      by_case Equal e rest = ap (λ b. cond b (Some row) (find_row uid_of rows (uid_of row))) (bytes_self (uid_of row))
      by_case Greater e rest =
          ap (λ b. cond b (Some r) (find_row uid_of (put_row uid_of rows row) (uid_of row))) (bytes_other (uid_of r) (uid_of row) (apart_from_greater (uid_of row) (uid_of r) e)) ∙ rest

  -- and other rows stay
  pub find-put_other : (rows : List T) (row : T) (uid : List ℕ) → bytes_eq (uid_of row) uid ≡ false → find_row uid_of (put_row uid_of rows row) uid ≡ find_row uid_of rows uid
  find-put_other [] row uid apart = ap (λ b. cond b (Some row) None) apart
  find-put_other (r ∷ rows) row uid apart = by_case (byte_cmp (uid_of row) (uid_of r)) refl (find-put_other rows row uid apart)
    where
      by_case : (o : Ordering) → byte_cmp (uid_of row) (uid_of r) ≡ o → find_row uid_of (put_row uid_of rows row) uid ≡ find_row uid_of rows uid
          → find_row uid_of (match_ordering o (row ∷ r ∷ rows) (row ∷ rows) (r ∷ put_row uid_of rows row)) uid ≡ find_row uid_of (r ∷ rows) uid
      by_case Less e rest = ap (λ b. cond b (Some row) (find_row uid_of (r ∷ rows) uid)) apart
      by_case Equal e rest =
          ap (λ b. cond b (Some row) (find_row uid_of rows uid)) apart
          ∙ sym (ap (λ b. cond b (Some r) (find_row uid_of rows uid)) (ap (λ u. bytes_eq u uid) (sym (exact_bytes (uid_of row) (uid_of r) e)) ∙ apart))
      by_case Greater e rest = ap (λ o. cond (bytes_eq (uid_of r) uid) (Some r) o) rest

  -- what is found, be it the row that was put or another
  pub find-put : (rows : List T) (row : T) (uid : List ℕ) → find_row uid_of (put_row uid_of rows row) uid ≡ cond (bytes_eq (uid_of row) uid) (Some row) (find_row uid_of rows uid)
  find-put rows row uid = by_test (bytes_eq (uid_of row) uid) refl
    where
      by_test : (t : Bool) → bytes_eq (uid_of row) uid ≡ t → find_row uid_of (put_row uid_of rows row) uid ≡ cond t (Some row) (find_row uid_of rows uid)
      by_test true same = ap (find_row uid_of (put_row uid_of rows row)) (sym (bytes_same (uid_of row) uid same)) ∙ find-put_own rows row
      by_test false other = find-put_other rows row uid other

  -- what is found where the rows of an identifier were dropped
  pub find-drop : (rows : List T) (own uid : List ℕ) → find_row uid_of (drop_row uid_of rows own) uid ≡ cond (bytes_eq own uid) None (find_row uid_of rows uid)
  find-drop [] own uid = sym (either (bytes_eq own uid))
    where
      either : (t : Bool) → cond {A = Option T} t None None ≡ None
      either true = refl
      either false = refl
  find-drop (r ∷ rows) own uid = by_tests (bytes_eq (uid_of r) own) (bytes_eq own uid) refl refl (find-drop rows own uid)
    where
      by_tests : (t u : Bool) → bytes_eq (uid_of r) own ≡ t → bytes_eq own uid ≡ u → find_row uid_of (drop_row uid_of rows own) uid ≡ cond (bytes_eq own uid) None (find_row uid_of rows uid)
          → find_row uid_of (cond (not t) (r ∷ drop_row uid_of rows own) (drop_row uid_of rows own)) uid ≡ cond u None (cond (bytes_eq (uid_of r) uid) (Some r) (find_row uid_of rows uid))
      by_tests true true is_t is_u later = later ∙ ap (λ b. cond b None (find_row uid_of rows uid)) is_u
      by_tests true false is_t is_u later =
          later ∙ ap (λ b. cond b None (find_row uid_of rows uid)) is_u
          ∙ sym (ap (λ b. cond b (Some r) (find_row uid_of rows uid)) (ap (λ v. bytes_eq v uid) (bytes_same (uid_of r) own is_t) ∙ is_u))
      by_tests false true is_t is_u later =
          ap (λ b. cond b (Some r) (find_row uid_of (drop_row uid_of rows own) uid)) (ap (bytes_eq (uid_of r)) (sym (bytes_same own uid is_u)) ∙ is_t)
          ∙ later ∙ ap (λ b. cond b None (find_row uid_of rows uid)) is_u
      by_tests false false is_t is_u later = ap (λ o. cond (bytes_eq (uid_of r) uid) (Some r) o) (later ∙ ap (λ b. cond b None (find_row uid_of rows uid)) is_u)

  -- the identifiers that stay are in the order of before, and were there
  below-drop : (low : List ℕ) (rows : List T) (own : List ℕ) → AllByRecursion (λ v. byte_cmp low v ≡ Less) (map uid_of rows) → AllByRecursion (λ v. byte_cmp low v ≡ Less) (map uid_of (drop_row uid_of rows own))
  below-drop low [] own below = tt
  below-drop low (r ∷ rows) own below = by_test (bytes_eq (uid_of r) own) (below-drop low rows own below.1)
    where
      by_test : (t : Bool) → AllByRecursion (λ v. byte_cmp low v ≡ Less) (map uid_of (drop_row uid_of rows own))
          → AllByRecursion (λ v. byte_cmp low v ≡ Less) (map uid_of (cond (not t) (r ∷ drop_row uid_of rows own) (drop_row uid_of rows own)))
      by_test true rest = rest
      by_test false rest = (below.0, rest)

  pub ascending-drop : (rows : List T) (own : List ℕ) → IsAscending (map uid_of rows) → IsAscending (map uid_of (drop_row uid_of rows own))
  ascending-drop [] own up = tt
  ascending-drop (r ∷ rows) own up = by_test (bytes_eq (uid_of r) own) (ascending-drop rows own up.1)
    where
      by_test : (t : Bool) → IsAscending (map uid_of (drop_row uid_of rows own)) → IsAscending (map uid_of (cond (not t) (r ∷ drop_row uid_of rows own) (drop_row uid_of rows own)))
      by_test true rest = rest
      by_test false rest = (below-drop (uid_of r) rows own up.0, rest)

  pub among-drop : (rows : List T) (own u : List ℕ) → is_among (map uid_of (drop_row uid_of rows own)) u ≡ true → is_among (map uid_of rows) u ≡ true
  among-drop (r ∷ rows) own u there = by_test (among-drop rows own u) (bytes_eq (uid_of r) own) there
    where
      later : (a b : Bool) → b ≡ true → (a || b) ≡ true
      later true b is = refl
      later false b is = is

      first : (a b c : Bool) → (b ≡ true → c ≡ true) → (a || b) ≡ true → (a || c) ≡ true
      first true b c rest is = refl
      first false b c rest is = rest is

      by_test : (is_among (map uid_of (drop_row uid_of rows own)) u ≡ true → is_among (map uid_of rows) u ≡ true) → (t : Bool)
          → is_among (map uid_of (cond (not t) (r ∷ drop_row uid_of rows own) (drop_row uid_of rows own))) u ≡ true → is_among (map uid_of (r ∷ rows)) u ≡ true
      by_test rest true is = later (bytes_eq (uid_of r) u) (is_among (map uid_of rows) u) (rest is)
      by_test rest false is = first (bytes_eq (uid_of r) u) (is_among (map uid_of (drop_row uid_of rows own)) u) (is_among (map uid_of rows) u) rest is
  among-drop [] own u there = there
