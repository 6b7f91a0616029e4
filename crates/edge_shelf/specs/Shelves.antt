-- What contracts see of a shelf: what a read gives of each file, and what a stop of the machine may leave of it.
--
-- No clock is needed for it. A stop amid a call is a failure of that call behind which no other comes, so what a failed call may leave is said of
-- each of its moments. What a stop may leave of a file is a list of bodies, of which any one may be there: one behind a call that was done, and one
-- more behind each that wasn't, since after two writes that failed any of three bodies may be found.
use Rattle.std.specs.Prelude.{◌≡◌, ◌⊎◌, ℕ, ◌≤◌, List, [], ◌∷◌, Bool, false, Option, None, Result, Err, IsTrue, OnOk, OnErr}
use Rattle.std.specs.Str.{bytes_eq}
use Rattle.edge_devices.specs.Faults.{HasRisen}
use Rattle.edge_devices.specs.declared.folders.FolderFail.{FolderFail}
use Rattle.edge_devices.specs.declared.folders.FolderFail.TheVariants.{Fault}

-- what the file of a name holds, and none where there is no such file
abbrev pub Body : Type 0
Body = Option (List ℕ)

-- Whether the shelf tells what it holds; what a read gives of each name; what a stop may leave of each, one of these; and how many calls answered
-- a fault.
pub record ShelfState : Type 0 where
  pub told : Bool
  pub files : List ℕ → Body
  pub left : List ℕ → List Body
  pub faults : ℕ

-- the body is one of these
abbrev pub IsAmong : Body → List Body → Type 0
IsAmong body [] = ⊥
IsAmong body (b ∷ bodies) = (body ≡ b) ⊎ IsAmong body bodies

-- A stop leaves these files: each is one of what it may leave of its name.
abbrev pub MayLeave : ShelfState → (List ℕ → Body) → Type 0
MayLeave shelf files = (name : List ℕ) → IsAmong (files name) (shelf.left name)

-- a stop leaves what a read gives
abbrev pub IsSettled : ShelfState → Type 0
IsSettled shelf = (name : List ℕ) → shelf.left name ≡ shelf.files name ∷ []

-- all other files are as they were, and a stop may leave of each what it might have left
pub record SameOthers (name : List ℕ) (old new : ShelfState) : Type 0 where
  pub files : (other : List ℕ) → bytes_eq name other ≡ false → new.files other ≡ old.files other
  pub left : (other : List ℕ) → bytes_eq name other ≡ false → new.left other ≡ old.left other

-- a call fails by the shelf only where the count of faults rose
pub record HasCause {T : Type 0} (old new : ShelfState) (result : Result T FolderFail) : Type 0 where
  pub told : new.told ≡ old.told
  pub later : old.faults ≤ new.faults
  pub fault : result ≡ Err Fault → HasRisen old.faults new.faults

-- The file of this name was written to hold this body, or removed. Done: a read gives it, and a stop leaves it. Not done, for whatever reason: a
-- stop leaves it, or what it might have left before.
pub record Changes {T : Type 0} (name : List ℕ) (body : Body) (old new : ShelfState) (result : Result T FolderFail) : Type 0 where
  pub done : OnOk result (IsTrue old.told → (new.files name ≡ body) × (new.left name ≡ body ∷ []))
  pub not_done : OnErr result (IsTrue old.told → (b : Body) → IsAmong b (new.left name) → IsAmong b (old.left name) ⊎ (b ≡ body))
  pub others : SameOthers name old new
  pub cause : HasCause old new result

-- Nothing is changed.
pub record Looks {T : Type 0} (old new : ShelfState) (result : Result T FolderFail) : Type 0 where
  pub files : new.files ≡ old.files
  pub left : new.left ≡ old.left
  pub cause : HasCause old new result

-- a real shelf tells nothing but its count of faults
abbrev pub silent_shelf : ℕ → ShelfState
silent_shelf faults = record { told = false; files = λ name. None; left = λ name. []; faults = faults }
