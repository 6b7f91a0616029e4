-- The first of what was told that isn't right.
use Prim.Native.Nat.{zero}
use Rattle.std.proofs.Common.{◌≡◌, ℕ, suc, ◌<◌, ◌≤◌, ◌==◌, List, [], ◌∷◌, ◌++◌, map, filter, take, true, false, cond, Option, None, Some, refl, sym, ◌∙◌, ap, subst}
use Rattle.std.specs.Prelude.{slice_get}
use Rattle.std.specs.List.{AllByRecursion}
use Rattle.std.proofs.lemmas.Bool.{eq-eqb}
use Rattle.std.proofs.lemmas.List.{append_assoc, map-append}
use Rattle.std.proofs.lemmas.List.Elements.{filter-append}
use Rattle.std.proofs.lemmas.Option.{none-some, same_Some}
use Rattle.shard_servers.specs.declared.desks.Told.{Told}
use Rattle.shard_servers.specs.Agreement.{FallsFirst, FirstFails, IsRising}
use Rattle.shard_servers.specs.Desks.{places_in}
use Rattle.shard_servers.proofs.PlaceLemmas.{places_in-push, rising_push}
use Rattle.shard_servers.proofs.Rising.{RisesTo}

-- a list is what stands before a place, the element there, and the rest
pub split_at : {X : Type 0} (xs : List X) (k : ℕ) (x : X) → slice_get xs k ≡ Some x → (rest : List X) × (xs ≡ take k xs ++ x ∷ rest)
split_at [] k x at = absurd (none-some x at)
split_at (y ∷ xs) zero x at = (xs, ap (λ z. z ∷ xs) (same_Some y x at))
split_at (y ∷ xs) (suc k) x at = let r = split_at xs k x at in (r.0, ap (λ zs. y ∷ zs) r.1)

pub first_fails : {X : Type 0} (P : X → Type 0) (xs : List X) (k : ℕ) (x : X) → slice_get xs k ≡ Some x → AllByRecursion P (take k xs) → (P x → ⊥) → FirstFails P xs x
first_fails P xs k x at hold fails = let r = split_at xs k x at in record { before = take k xs; after = r.0; parts = r.1; hold = hold; fails = fails }

-- an element of a list of images is the image of one
pub image_at : {A B : Type 0} (f : A → B) (xs : List A) (k : ℕ) (y : B) → slice_get (map f xs) k ≡ Some y → (x : A) × (slice_get xs k ≡ Some x) × (f x ≡ y)
image_at f [] k y at = absurd (none-some y at)
image_at f (x ∷ xs) zero y at = (x, refl, same_Some (f x) y at)
image_at f (x ∷ xs) (suc k) y at = image_at f xs k y at

pub image_of : {A B : Type 0} (f : A → B) (xs : List A) (k : ℕ) (x : A) → slice_get xs k ≡ Some x → slice_get (map f xs) k ≡ Some (f x)
image_of f [] k x at = absurd (none-some x at)
image_of f (y ∷ xs) zero x at = ap (λ z. Some (f z)) (same_Some y x at)
image_of f (y ∷ xs) (suc k) x at = image_of f xs k x at

-- the places of rows, then of one of the shard, and then of others
places_apart : (shard : ℕ) (before : List Told) (t : Told) (after : List Told) → t.shard ≡ shard
    → places_in shard (before ++ t ∷ after) ≡ places_in shard before ++ t.place ∷ places_in shard after
places_apart shard before t after own =
    ap (map (λ (x : Told). x.place)) (filter-append (λ (x : Told). x.shard == shard) before (t ∷ after))
    ∙ map-append (λ (x : Told). x.place) (filter (λ (x : Told). x.shard == shard) before) (filter (λ (x : Told). x.shard == shard) (t ∷ after))
    ∙ ap (λ b. places_in shard before ++ map (λ (x : Told). x.place) (cond b (t ∷ filter (λ (x : Told). x.shard == shard) after) (filter (λ (x : Told). x.shard == shard) after))) (eq-eqb t.shard shard own)

-- the row that doesn't stand behind the one before it
pub falls_first : (shard : ℕ) (told : List Told) (k : ℕ) (t : Told) (earlier : ℕ) → slice_get told k ≡ Some t → t.shard ≡ shard
    → RisesTo (Some earlier) (places_in shard (take k told)) → t.place ≤ earlier → FallsFirst (places_in shard told) earlier t.place
falls_first shard told k t earlier at own rise falls =
    let r = split_at told k t at in
    record {
      before = rise.0;
      after = places_in shard r.0;
      parts =
          ap (places_in shard) r.1
          ∙ places_apart shard (take k told) t r.0 own
          ∙ ap (λ ps. ps ++ t.place ∷ places_in shard r.0) rise.1
          ∙ append_assoc rise.0 (earlier ∷ []) (t.place ∷ places_in shard r.0);
      rise = rise.2;
      falls = falls;
    }

-- a row of another shard
pub passes_over : (shard : ℕ) (told : List Told) (t : Told) (last : Option ℕ) → (t.shard == shard) ≡ false → RisesTo last (places_in shard told) → RisesTo last (places_in shard (told ++ t ∷ []))
passes_over shard told t last other rise =
    subst (RisesTo last) (sym (places_in-push shard told t ∙ ap (λ b. places_in shard told ++ cond b (t.place ∷ []) []) other ∙ append_nothing (places_in shard told))) rise
  where
    append_nothing : (xs : List ℕ) → xs ++ [] ≡ xs
    append_nothing [] = refl
    append_nothing (x ∷ xs) = ap (λ ys. x ∷ ys) (append_nothing xs)

-- a row of the shard that stands behind the one before it
pub goes_on : (shard : ℕ) (told : List Told) (t : Told) (last : Option ℕ) → (t.shard == shard) ≡ true → RisesTo last (places_in shard told)
    → ((p : ℕ) → last ≡ Some p → p < t.place) → RisesTo (Some t.place) (places_in shard (told ++ t ∷ []))
goes_on shard told t None own none above =
    let is = places_in-push shard told t ∙ ap (λ b. places_in shard told ++ cond b (t.place ∷ []) []) own ∙ ap (λ ps. ps ++ t.place ∷ []) none in
    ([], is, (tt, tt))
goes_on shard told t (Some p) own rise above =
    let is = places_in-push shard told t ∙ ap (λ b. places_in shard told ++ cond b (t.place ∷ []) []) own ∙ ap (λ ps. ps ++ t.place ∷ []) rise.1 in
    (rise.0 ++ p ∷ [], is, rising_push rise.0 p t.place rise.2 (above p refl))

pub rises_whole : (last : Option ℕ) (ps : List ℕ) → RisesTo last ps → IsRising ps
rises_whole None ps none = subst IsRising (sym none) tt
rises_whole (Some p) ps rise = subst IsRising (sym rise.1) rise.2
