-- What is read again.
use Rattle.std.specs.Prelude.{◌≡◌, if◌then◌else◌, ℕ, ◌<◌, ◌≤◌, ◌⊎◌, slice_index_or, List, [], ◌∷◌, ◌++◌, Some, IsSome, Contains, IsTrue}
use Rattle.edge_devices.specs.Faults.{HasRisen}
use Rattle.edge_devices.specs.declared.folders.FolderFail.{FolderFail}
use Rattle.edge_devices.specs.declared.folders.FolderFail.TheVariants as folder
use Rattle.server_core.specs.declared.offers.Offers.{Offers}
use Rattle.std.specs.Str.{bytes_eq}
use Rattle.server_core.specs.Offers.{no_offers}
use Rattle.edge_shelf.specs.Shelves.{Body, ShelfState}
use Rattle.server_kept.specs.Files.{Holds, IsUid, StandsFor, file_name}
use Rattle.server_kept.specs.declared.opening.KeptOffers.{KeptOffers}
use Rattle.server_kept.specs.declared.opening.OpenFail.{OpenFail}
use Rattle.server_kept.specs.declared.opening.OpenFail.TheVariants as fails

abbrev pub open_fail : FolderFail → OpenFail
open_fail folder.Fault = fails.Fault
open_fail folder.NoMemory = fails.NoMemory

-- these offers to the agent stand in its file
pub record IsKept (files : List ℕ → Body) (kept : KeptOffers) : Type 0 where
  pub agent : IsUid kept.uid
  pub body : List ℕ
  pub there : files (file_name kept.uid) ≡ Some body
  pub holds : Holds kept.uid kept.offers body

-- a file of this name is there, and it is one of those that were found
abbrev pub IsFound : List KeptOffers → List ℕ → Type 0
IsFound found uid = (offers : Offers) × Contains found (record { uid = uid; offers = offers })

-- what was found is each agent's file and nothing else
pub record Opened (files : List ℕ → Body) (found : List KeptOffers) : Type 0 where
  pub sound : (kept : KeptOffers) → Contains found kept → IsKept files kept
  pub complete : (uid : List ℕ) → IsUid uid → IsSome (files (file_name uid)) → IsFound found uid

-- the file of this name is an agent's, and stands for no offers
pub record IsWrong (files : List ℕ → Body) (name : List ℕ) : Type 0 where
  pub uid : List ℕ
  pub agent : IsUid uid
  pub named : file_name uid ≡ name
  pub body : List ℕ
  pub there : files name ≡ Some body
  pub wrong : (offers : Offers) → Holds uid offers body → ⊥

-- why a shelf isn't read
abbrev pub OpenFails : ShelfState → ShelfState → OpenFail → Type 0
OpenFails old new (fails.Wrong name) = IsTrue old.told → IsWrong old.files name
OpenFails old new fails.Fault = HasRisen old.faults new.faults
OpenFails old new fails.NoMemory = Unit {0}

-- nothing is changed
pub record SameShelf (old new : ShelfState) : Type 0 where
  pub told : new.told ≡ old.told
  pub files : new.files ≡ old.files
  pub left : new.left ≡ old.left
  pub later : old.faults ≤ new.faults

-- The file of this name was looked at: what it keeps was added, or it is no agent's or not there.
abbrev pub Adds : (List ℕ → Body) → List ℕ → List KeptOffers → List KeptOffers → Type 0
Adds files name old new =
    ((new ≡ old) × ((uid : List ℕ) → IsUid uid → file_name uid ≡ name → IsSome (files name) → ⊥))
    ⊎ ((kept : KeptOffers) × (new ≡ old ++ kept ∷ []) × IsKept files kept × (file_name kept.uid ≡ name))

-- what the first i names keep was found
pub record Gathered (files : List ℕ → Body) (names : List (List ℕ)) (i : ℕ) (found : List KeptOffers) : Type 0 where
  pub sound : (kept : KeptOffers) → Contains found kept → IsKept files kept
  pub complete : (k : ℕ) (d : List ℕ) → k < i → (uid : List ℕ) → IsUid uid → file_name uid ≡ slice_index_or names k d → IsSome (files (slice_index_or names k d)) → IsFound found uid

-- what was found to stand for an agent
abbrev pub found_at : List KeptOffers → List ℕ → Offers
found_at [] uid = no_offers
found_at (kept ∷ found) uid = if bytes_eq kept.uid uid then kept.offers else found_at found uid

-- each agent's file stands for what was found to stand for it
abbrev pub FindsAll : Type 0
FindsAll = (files : List ℕ → Body) (found : List KeptOffers) → Opened files found → (uid : List ℕ) → IsUid uid → StandsFor uid (found_at found uid) (files (file_name uid))
