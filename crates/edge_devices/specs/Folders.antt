-- What contracts see of a folder.
use Rattle.std.specs.Prelude.{◌≡◌, ℕ, ◌≤◌, ◌++◌, List, [], ◌∷◌, Bool, true, false, ◌&&◌, Option, Some, None, Result, Ok, Err, IsTrue, IsSome, Contains, ◌↔◌, is_none, not}
use Rattle.std.specs.List.{list_any}
use Rattle.std.specs.Str.{bytes_eq}
use Rattle.edge_devices.specs.Faults.{HasRisen}
use Rattle.edge_devices.specs.Names.{is_good_name}
use Rattle.edge_devices.specs.declared.folders.Area.{Area}
use Rattle.edge_devices.specs.declared.folders.Area.TheVariants.{Config, Packages, Status}
use Rattle.edge_devices.specs.declared.folders.FolderFail.{FolderFail}
use Rattle.edge_devices.specs.declared.folders.FolderFail.TheVariants.{Fault, NoMemory}
use Rattle.edge_devices.specs.declared.folders.FolderCall.{FolderCall}
use Rattle.edge_devices.specs.declared.folders.FolderCall.TheVariants.{Names, Read, Write, Remove}

-- what an area holds: the body of the file of each name, and none where there is no such file
abbrev pub Files : Type 0
Files = List ℕ → Option (List ℕ)

-- Whether the folder tells its files and calls; the files of each area; the calls in their order, each with its
-- answer; and how many of them answered a fault.
pub record FolderState : Type 0 where
  pub told : Bool
  pub files : Area → Files
  pub calls : List FolderCall
  pub faults : ℕ

-- the two areas are one
abbrev pub same_area : Area → Area → Bool
same_area Config Config = true
same_area Packages Packages = true
same_area Status Status = true
same_area _ _ = false

-- this is the file of that name in that area
abbrev pub is_file : Area → List ℕ → Area → List ℕ → Bool
is_file area name other file = same_area area other && bytes_eq name file

-- the list is of the names that the area holds
abbrev pub AreNames : Files → List (List ℕ) → Type 0
AreNames files names = (name : List ℕ) → Contains names name ↔ IsSome (files name)

-- all the names are good
abbrev pub AreGood : List (List ℕ) → Type 0
AreGood names = (name : List ℕ) → Contains names name → is_good_name name ≡ true

-- All files are as they were.
abbrev pub SameFiles : (Area → Files) → (Area → Files) → Type 0
SameFiles old new = (area : Area) (name : List ℕ) → new area name ≡ old area name

-- All files but this one are as they were.
abbrev pub SameOthers : Area → List ℕ → (Area → Files) → (Area → Files) → Type 0
SameOthers area name old new = (other : Area) (file : List ℕ) → is_file area name other file ≡ false → new other file ≡ old other file

-- The files of all areas but this one are as they were.
abbrev pub SameAreas : Area → (Area → Files) → (Area → Files) → Type 0
SameAreas area old new = (other : Area) (file : List ℕ) → same_area area other ≡ false → new other file ≡ old other file

-- The call as the list of calls has it: with its value, with none where it answered a fault, and not at all where
-- memory was wanting.
abbrev pub entry_of : {T : Type 0} → (Option T → FolderCall) → Result T FolderFail → List FolderCall
entry_of call (Ok value) = call (Some value) ∷ []
entry_of call (Err Fault) = call None ∷ []
entry_of call (Err NoMemory) = []

-- The folder made this one call.
pub record Calls {T : Type 0} (old new : FolderState) (call : Option T → FolderCall) (result : Result T FolderFail) : Type 0 where
  pub told : new.told ≡ old.told
  pub calls : IsTrue new.told → new.calls ≡ old.calls ++ entry_of call result
  pub count : old.faults ≤ new.faults
  pub fault : result ≡ Err Fault → HasRisen old.faults new.faults

-- the answer is a fault
abbrev pub is_folder_fault : {T : Type 0} → Result T FolderFail → Bool
is_folder_fault (Err Fault) = true
is_folder_fault _ = false

-- the call answered a fault
abbrev pub is_fault : FolderCall → Bool
is_fault (Names area answer) = is_none answer
is_fault (Read area name answer) = is_none answer
is_fault (Write area name body done) = not done
is_fault (Remove area name done) = not done

-- none of the calls answered a fault
abbrev pub NoFault : List FolderCall → Type 0
NoFault calls = list_any is_fault calls ≡ false

-- the last call, and it alone, answered a fault
pub record EndsInFault (calls : List FolderCall) : Type 0 where
  pub before : List FolderCall
  pub last : FolderCall
  pub parts : calls ≡ before ++ last ∷ []
  pub none : NoFault before
  pub fault : is_fault last ≡ true

-- The folder made these calls, one after the other.
pub record Makes (old new : FolderState) (seen : List FolderCall) : Type 0 where
  pub told : new.told ≡ old.told
  pub calls : IsTrue new.told → new.calls ≡ old.calls ++ seen
  pub count : old.faults ≤ new.faults
  pub fault : list_any is_fault seen ≡ true → HasRisen old.faults new.faults

-- What makes these calls goes on while they succeed, and ends with the first that fails.
abbrev pub Stops : {T : Type 0} → List FolderCall → Result T FolderFail → Type 0
Stops seen (Ok value) = NoFault seen
Stops seen (Err Fault) = EndsInFault seen
Stops seen (Err NoMemory) = NoFault seen

-- The folder's calls were made until one failed, which is the answer.
pub record Runs {T : Type 0} (old new : FolderState) (result : Result T FolderFail) : Type 0 where
  pub seen : List FolderCall
  pub makes : Makes old new seen
  pub stops : Stops seen result
