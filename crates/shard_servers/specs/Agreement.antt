-- Whether journals keep what was told to desks.
use Rattle.std.specs.Prelude.{◌≡◌, ◌⊎◌, ℕ, ◌<◌, ◌≤◌, ⊤, List, [], ◌∷◌, ◌++◌, length, slice_get, Option, Some, unwrap_or}
use Rattle.std.specs.List.{AllByRecursion}
use Rattle.shard_journals.specs.declared.rows.Row.{Row}
use Rattle.shard_journals.specs.declared.sharding.TheConstants.{SHARDS}
use Rattle.shard_journals.specs.Histories.{IsHistory}
use Rattle.shard_servers.specs.declared.checks.CloseFail.{CloseFail}
use Rattle.shard_servers.specs.declared.checks.CloseFail.TheVariants.{Differs, OutOfOrder, NoMemory}
use Rattle.shard_servers.specs.declared.desks.Told.{Told}
use Rattle.shard_servers.specs.Desks.{AreOwn, AtDesk, all_places, places_in}

-- ---- the told row is the kept one

-- the rows of a shard's journal
abbrev pub rows_of : List (List Row) → ℕ → List Row
rows_of journals shard = unwrap_or (slice_get journals shard) []

-- the row that is kept at a place of a shard's journal, if one is
abbrev pub kept_at : List (List Row) → ℕ → ℕ → Option Row
kept_at journals shard place = slice_get (rows_of journals shard) place

abbrev pub Stands : List (List Row) → Told → Type 0
Stands journals t = kept_at journals t.shard t.place ≡ Some t.row

-- it holds of the elements before this one, and not of this one
pub record FirstFails {X : Type 0} (P : X → Type 0) (xs : List X) (x : X) : Type 0 where
  pub before : List X
  pub after : List X
  pub parts : xs ≡ before ++ x ∷ after
  pub hold : AllByRecursion P before
  pub fails : P x → ⊥

-- it holds of each desk
abbrev pub OfEach : (AtDesk → Type 0) → List AtDesk → Type 0
OfEach P desks = (place : ℕ) (d : AtDesk) → slice_get desks place ≡ Some d → P d

abbrev pub AllStand : List (List Row) → List AtDesk → Type 0
AllStand journals desks = OfEach (λ d. AllByRecursion (Stands journals) d.told) desks

-- the first of these told rows that isn't the kept one, with the kept one
abbrev pub DiffersFirst : List (List Row) → List Told → CloseFail → Type 0
DiffersFirst journals told (Differs shard place kept row) =
    FirstFails (Stands journals) told (record { shard = shard; place = place; row = row }) × (kept_at journals shard place ≡ kept)
DiffersFirst journals told (OutOfOrder desk earlier later) = ⊥
DiffersFirst journals told NoMemory = ⊤

-- ---- the places rise

-- each place is below all later ones
abbrev pub IsRising : List ℕ → Type 0
IsRising [] = ⊤
IsRising (p ∷ ps) = AllByRecursion (λ q. p < q) ps × IsRising ps

-- in each shard the places of these told rows rise
abbrev pub PlacesRise : List Told → Type 0
PlacesRise told = (shard : ℕ) → shard < SHARDS → IsRising (places_in shard told)

abbrev pub AllRise : List AtDesk → Type 0
AllRise desks = OfEach (λ d. PlacesRise d.told) desks

-- the places rise to the earlier one, and the later one, which comes next, isn't above it
pub record FallsFirst (places : List ℕ) (earlier later : ℕ) : Type 0 where
  pub before : List ℕ
  pub after : List ℕ
  pub parts : places ≡ before ++ earlier ∷ later ∷ after
  pub rise : IsRising (before ++ earlier ∷ [])
  pub falls : later ≤ earlier

-- the first two places, in the first shard where the places of the desk's rows don't rise
abbrev pub OutOfOrderFirst : ℕ → List Told → CloseFail → Type 0
OutOfOrderFirst number told (Differs shard place kept row) = ⊥
OutOfOrderFirst number told (OutOfOrder desk earlier later) =
    (desk ≡ number) × (shard : ℕ) × FallsFirst (places_in shard told) earlier later
    × ((s : ℕ) → s < shard → IsRising (places_in s told))
OutOfOrderFirst number told NoMemory = ⊥

-- ---- both

-- it fails of a desk so, and holds of each desk before it
pub record FailsAt (P : AtDesk → Type 0) (desks : List AtDesk) (fails : AtDesk → Type 0) : Type 0 where
  pub place : ℕ
  pub desk : AtDesk
  pub at : slice_get desks place ≡ Some desk
  pub fail : fails desk
  pub hold : (earlier : ℕ) (d : AtDesk) → earlier < place → slice_get desks earlier ≡ Some d → P d

-- a told row isn't the kept one, or all are and the rows of a desk are out of order
abbrev pub DiffersSomewhere : List (List Row) → List AtDesk → CloseFail → Type 0
DiffersSomewhere journals desks fail = FailsAt (λ d. AllByRecursion (Stands journals) d.told) desks (λ d. DiffersFirst journals d.told fail)

abbrev pub OutOfOrderSomewhere : List AtDesk → CloseFail → Type 0
OutOfOrderSomewhere desks fail = FailsAt (λ d. PlacesRise d.told) desks (λ d. OutOfOrderFirst d.number d.told fail)

abbrev pub Disagrees : List (List Row) → List AtDesk → CloseFail → Type 0
Disagrees journals desks fail = DiffersSomewhere journals desks fail ⊎ (AllStand journals desks × OutOfOrderSomewhere desks fail)

-- no two are the same
abbrev pub AreDistinct : List ℕ → Type 0
AreDistinct [] = ⊤
AreDistinct (x ∷ xs) = AllByRecursion (λ y. x ≡ y → ⊥) xs × AreDistinct xs

-- a journal of each shard, which is a history of one thread
pub record AreKept (journals : List (List Row)) : Type 0 where
  pub four : length journals ≡ SHARDS
  pub histories : (shard : ℕ) (rows : List Row) → slice_get journals shard ≡ Some rows → IsHistory rows

-- The journals keep the rows that were told to the desks and no others: each told row stands at its place, no two were told
-- for one place, and there are as many. In each shard the places of a desk's rows rise.
pub record Agrees (journals : List (List Row)) (desks : List AtDesk) : Type 0 where
  pub kept : AreKept journals
  pub own : OfEach (λ d. AreOwn d.number d.told) desks
  pub stand : AllStand journals desks
  pub rise : AllRise desks
  pub apart : (shard : ℕ) → shard < SHARDS → AreDistinct (all_places shard desks)
  pub as_many : (shard : ℕ) (rows : List Row) → slice_get journals shard ≡ Some rows → length rows ≡ length (all_places shard desks)

-- what was told to the desks disagrees so with the journals that the shards kept
pub record DisagreesWithKept (desks : List AtDesk) (fail : CloseFail) : Type 0 where
  pub journals : List (List Row)
  pub kept : AreKept journals
  pub disagrees : Disagrees journals desks fail

abbrev pub FailsToClose : List AtDesk → CloseFail → Type 0
FailsToClose desks fail = (fail ≡ NoMemory) ⊎ DisagreesWithKept desks fail
