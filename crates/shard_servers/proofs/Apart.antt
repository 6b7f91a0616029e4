-- No two rows were told for one place, and each place was told.
use Prim.Native.Nat.{zero}
use Rattle.std.proofs.Common.{◌≡◌, ℕ, suc, ◌<◌, ◌==◌, List, [], ◌∷◌, ◌++◌, length, map, filter, Bool, true, false, cond, Some, ◌⊎◌, inl, inr, refl, sym, ◌∙◌, ap, subst, arith}
use Rattle.std.specs.Prelude.{slice_get, unwrap_or}
use Rattle.std.specs.List.{AllByRecursion}
use Rattle.std.proofs.lemmas.Bool.{eqb-true}
use Rattle.std.proofs.lemmas.Option.{none-some, same_Some, slice_get_within}
use Rattle.shard_journals.specs.declared.rows.Row.{Row}
use Rattle.shard_servers.specs.declared.desks.Told.{Told}
use Rattle.shard_servers.specs.Agreement.{AreDistinct, IsRising, OfEach, Stands, kept_at}
use Rattle.shard_servers.specs.Desks.{AreOwn, AtDesk, all_places, places_in}
use Rattle.shard_servers.proofs.Lists.{all-append, all-map}

rising_distinct : (ps : List ℕ) → IsRising ps → AreDistinct ps
rising_distinct [] rise = tt
rising_distinct (p ∷ ps) rise = (all-map (λ q. p < q) (λ q. p ≡ q → ⊥) ps (λ q below same. absurd (omega (arith, below, same))) rise.0, rising_distinct ps rise.1)

distinct-append : (xs ys : List ℕ) → AreDistinct xs → AreDistinct ys → AllByRecursion (λ x. AllByRecursion (λ y. x ≡ y → ⊥) ys) xs → AreDistinct (xs ++ ys)
distinct-append [] ys a b apart = b
distinct-append (x ∷ xs) ys a b apart = (all-append (λ y. x ≡ y → ⊥) xs ys a.0 apart.0, distinct-append xs ys a.1 b apart.1)

module _ (journals : List (List Row)) (shard : ℕ) where
  -- what is kept at the place names the desk
  abbrev Named : ℕ → ℕ → Type 0
  Named number p = (row : Row) × (kept_at journals shard p ≡ Some row) × (row.desk ≡ number)

  -- the rows of the desk stand, and their places rise in the shard
  pub record IsSound (d : AtDesk) : Type 0 where
    pub own : AreOwn d.number d.told
    pub stand : AllByRecursion (Stands journals) d.told
    pub rise : IsRising (places_in shard d.told)

  named : (number : ℕ) (told : List Told) → AreOwn number told → AllByRecursion (Stands journals) told → AllByRecursion (Named number) (places_in shard told)
  named number [] own stand = tt
  named number (t ∷ told) own stand = by_test (t.shard == shard) refl (named number told own.1 stand.1)
    where
      by_test : (b : Bool) → (t.shard == shard) ≡ b → AllByRecursion (Named number) (places_in shard told) → AllByRecursion (Named number) (map (λ (x : Told). x.place) (cond b (t ∷ filter (λ (x : Told). x.shard == shard) told) (filter (λ (x : Told). x.shard == shard) told)))
      by_test true e rest = ((t.row, subst (λ s. kept_at journals s t.place ≡ Some t.row) (eqb-true t.shard shard e) stand.0, own.0.desk), rest)
      by_test false e rest = rest

  apart_from : (n m p q : ℕ) → (n ≡ m → ⊥) → Named n p → Named m q → p ≡ q → ⊥
  apart_from n m p q differ a b same = differ (sym a.2 ∙ ap (λ (r : Row). r.desk) (same_Some a.0 b.0 (sym a.1 ∙ ap (kept_at journals shard) same ∙ b.1)) ∙ b.2)

  -- one place of a desk, and the places of other desks
  apart_from_all : (n p : ℕ) → Named n p → (desks : List AtDesk) → OfEach IsSound desks → AllByRecursion (λ m. n ≡ m → ⊥) (map (λ (d : AtDesk). d.number) desks)
      → AllByRecursion (λ q. p ≡ q → ⊥) (all_places shard desks)
  apart_from_all n p is [] sound differ = tt
  apart_from_all n p is (d ∷ desks) sound differ =
      let own = sound 0 d refl in
      all-append (λ q. p ≡ q → ⊥) (places_in shard d.told) (all_places shard desks)
      (all-map (Named d.number) (λ q. p ≡ q → ⊥) (places_in shard d.told) (λ q of_other. apart_from n d.number p q differ.0 is of_other) (named d.number d.told own.own own.stand))
      (apart_from_all n p is desks (λ k e at. sound (suc k) e at) differ.1)

  pub all_apart : (desks : List AtDesk) → OfEach IsSound desks → AreDistinct (map (λ (d : AtDesk). d.number) desks) → AreDistinct (all_places shard desks)
  all_apart [] sound numbers = tt
  all_apart (d ∷ desks) sound numbers =
      let own = sound 0 d refl in
      let rest : OfEach IsSound desks = λ k e at. sound (suc k) e at in
      distinct-append (places_in shard d.told) (all_places shard desks)
      (rising_distinct (places_in shard d.told) own.rise)
      (all_apart desks rest numbers.1)
      (all-map (Named d.number) (λ p. AllByRecursion (λ q. p ≡ q → ⊥) (all_places shard desks)) (places_in shard d.told)
      (λ p is. apart_from_all d.number p is desks rest numbers.0)
      (named d.number d.told own.own own.stand))

  -- each place that was told is one of the journal
  kept_places : (rows : List Row) → slice_get journals shard ≡ Some rows → (told : List Told) → AllByRecursion (Stands journals) told → AllByRecursion (λ p. p < length rows) (places_in shard told)
  kept_places rows at [] stand = tt
  kept_places rows at (t ∷ told) stand = by_test (t.shard == shard) refl (kept_places rows at told stand.1)
    where
      by_test : (b : Bool) → (t.shard == shard) ≡ b → AllByRecursion (λ p. p < length rows) (places_in shard told) → AllByRecursion (λ p. p < length rows) (map (λ (x : Told). x.place) (cond b (t ∷ filter (λ (x : Told). x.shard == shard) told) (filter (λ (x : Told). x.shard == shard) told)))
      by_test true e rest = (
        slice_get_within rows t.place t.row
            (ap (λ o. slice_get (unwrap_or o []) t.place) (sym at) ∙ subst (λ s. kept_at journals s t.place ≡ Some t.row) (eqb-true t.shard shard e) stand.0),
        rest,
      )
      by_test false e rest = rest

  pub places_kept : (rows : List Row) → slice_get journals shard ≡ Some rows → (desks : List AtDesk) → OfEach (λ d. AllByRecursion (Stands journals) d.told) desks
      → AllByRecursion (λ p. p < length rows) (all_places shard desks)
  places_kept rows at [] stand = tt
  places_kept rows at (d ∷ desks) stand =
      all-append (λ p. p < length rows) (places_in shard d.told) (all_places shard desks)
      (kept_places rows at d.told (stand 0 d refl))
      (places_kept rows at desks (λ k e here. stand (suc k) e here))

-- ---- who was told of a place

-- a row of the desk was told for the place
pub record IsTold (shard : ℕ) (told : List Told) (p : ℕ) : Type 0 where
  pub number : ℕ
  pub t : Told
  pub at : slice_get told number ≡ Some t
  pub shard_is : t.shard ≡ shard
  pub place_is : t.place ≡ p

pub told_of_place : (shard : ℕ) (told : List Told) (k p : ℕ) → slice_get (places_in shard told) k ≡ Some p → IsTold shard told p
told_of_place shard [] k p at = absurd (none-some p at)
told_of_place shard (t ∷ told) k p at = by_test (t.shard == shard) refl k at (λ j here. told_of_place shard told j p here)
  where
    further : IsTold shard told p → IsTold shard (t ∷ told) p
    further is = record { number = suc is.number; t = is.t; at = is.at; shard_is = is.shard_is; place_is = is.place_is }

    Rest : Type 0
    Rest = (j : ℕ) → slice_get (places_in shard told) j ≡ Some p → IsTold shard told p

    by_test : (b : Bool) → (t.shard == shard) ≡ b → (j : ℕ) → slice_get (map (λ (x : Told). x.place) (cond b (t ∷ filter (λ (x : Told). x.shard == shard) told) (filter (λ (x : Told). x.shard == shard) told))) j ≡ Some p → Rest → IsTold shard (t ∷ told) p
    by_test true e zero here rest = record { number = 0; t = t; at = refl; shard_is = eqb-true t.shard shard e; place_is = same_Some t.place p here }
    by_test true e (suc j) here rest = further (rest j here)
    by_test false e j here rest = further (rest j here)

-- an element of joined lists is one of one of them
pub piece_of : (shard : ℕ) (desks : List AtDesk) (k p : ℕ) → slice_get (all_places shard desks) k ≡ Some p
    → (place : ℕ) × (d : AtDesk) × (slice_get desks place ≡ Some d) × IsTold shard d.told p
piece_of shard [] k p at = absurd (none-some p at)
piece_of shard (d ∷ desks) k p at = by_side (split (places_in shard d.told) (all_places shard desks) k at) (λ j here. piece_of shard desks j p here)
  where
    split : (xs ys : List ℕ) (j : ℕ) → slice_get (xs ++ ys) j ≡ Some p → ((i : ℕ) × (slice_get xs i ≡ Some p)) ⊎ ((i : ℕ) × (slice_get ys i ≡ Some p))
    split [] ys j here = inr (j, here)
    split (x ∷ xs) ys zero here = inl (0, here)
    split (x ∷ xs) ys (suc j) here = deeper (split xs ys j here)
      where
        deeper : (((i : ℕ) × (slice_get xs i ≡ Some p)) ⊎ ((i : ℕ) × (slice_get ys i ≡ Some p))) → ((i : ℕ) × (slice_get (x ∷ xs) i ≡ Some p)) ⊎ ((i : ℕ) × (slice_get ys i ≡ Some p))
        deeper (inl a) = inl (suc a.0, a.1)
        deeper (inr b) = inr b

    by_side : (((i : ℕ) × (slice_get (places_in shard d.told) i ≡ Some p)) ⊎ ((i : ℕ) × (slice_get (all_places shard desks) i ≡ Some p)))
        → ((j : ℕ) → slice_get (all_places shard desks) j ≡ Some p → (place : ℕ) × (e : AtDesk) × (slice_get desks place ≡ Some e) × IsTold shard e.told p)
        → (place : ℕ) × (e : AtDesk) × (slice_get (d ∷ desks) place ≡ Some e) × IsTold shard e.told p
    by_side (inl a) later = (0, d, refl, told_of_place shard d.told a.0 p a.1)
    by_side (inr b) later = let rest = later b.0 b.1 in (suc rest.0, rest.1, rest.2, rest.3)
