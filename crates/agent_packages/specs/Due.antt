-- Which calls of the folder and of the dialer an offer of packages makes due.
use Rattle.std.specs.Prelude.{◌≡◌, ◌≤◌, ◌++◌, ◌⊎◌, ℕ, List, Contains, IsSomeAnd, IsTrue, false, is_some}
use Rattle.std.specs.List.{AllByRecursion}
use Rattle.plain_values.specs.declared.maps.Pair.{Pair}
use Rattle.message_values.specs.declared.packages.PackageAvailable.{PackageAvailable}
use Rattle.message_values.specs.declared.packages.PackageStatus.{PackageStatus}
use Rattle.message_values.specs.declared.packages.PackageStatuses.{PackageStatuses}
use Rattle.message_values.specs.declared.packages.PackagesAvailable.{PackagesAvailable}
use Rattle.plain_values.specs.Pairs.{value_at}
use Rattle.edge_devices.specs.declared.folders.Area.TheVariants.{Packages}
use Rattle.edge_devices.specs.declared.folders.FolderCall.{FolderCall}
use Rattle.edge_devices.specs.declared.folders.FolderCall.TheVariants.{Names, Read, Write, Remove}
use Rattle.edge_devices.specs.Folders.{FolderState, Makes}
use Rattle.edge_devices.specs.declared.dialers.DialerCall.{DialerCall}
use Rattle.edge_devices.specs.declared.dialers.DialerCall.TheVariants.{Dial, Exchange, Fetch, Arrived}
use Rattle.edge_devices.specs.Dialers.{DialerState}
use Rattle.agent_packages.specs.Packages.{is_same}
use Rattle.agent_packages.specs.Visits.{IsContent}

-- The folder made only calls that are allowed.
pub record MakesOnly (allowed : FolderCall → Type 0) (old new : FolderState) : Type 0 where
  pub seen : List FolderCall
  pub made : Makes old new seen
  pub each : AllByRecursion allowed seen

-- the write of this package's file, with content of the offered hash
abbrev pub IsWriteOf : List ℕ → PackageAvailable → FolderCall → Type 0
IsWriteOf name item (Write area other content done) = (area ≡ Packages) × (other ≡ name) × IsContent item.file content
IsWriteOf name item (Names area answer) = ⊥
IsWriteOf name item (Read area other answer) = ⊥
IsWriteOf name item (Remove area other done) = ⊥

-- the remove of the file of that name
abbrev pub IsRemoveOf : List ℕ → FolderCall → Type 0
IsRemoveOf name (Remove area other done) = (area ≡ Packages) × (other ≡ name)
IsRemoveOf name (Names area answer) = ⊥
IsRemoveOf name (Read area other answer) = ⊥
IsRemoveOf name (Write area other content done) = ⊥

-- the write of the file of a package that isn't the one that is held
abbrev pub IsOwnWrite : List (Pair PackageStatus) → Pair PackageAvailable → FolderCall → Type 0
IsOwnWrite held item call = (is_same held item ≡ false) × IsWriteOf item.key item.value call

-- the write of the file of an offered package that isn't the one that is held
pub record IsFetchedWrite (held : List (Pair PackageStatus)) (offered : List (Pair PackageAvailable)) (call : FolderCall) : Type 0 where
  pub item : Pair PackageAvailable
  pub among : Contains offered item
  pub own : IsOwnWrite held item call

-- the remove of the file of a package that is held and isn't offered any more
pub record IsGoneRemove (offered : List (Pair PackageAvailable)) (held : List (Pair PackageStatus)) (call : FolderCall) : Type 0 where
  pub item : Pair PackageStatus
  pub among : Contains held item
  pub gone : is_some (value_at offered item.key) ≡ false
  pub remove : IsRemoveOf item.key call

-- one or the other
abbrev pub IsDue : PackageStatuses → PackagesAvailable → FolderCall → Type 0
IsDue held offered call = IsFetchedWrite held.packages offered.packages call ⊎ IsGoneRemove offered.packages held.packages call

-- The dialer made only calls that are allowed; one that answered want of memory is counted and isn't among them.
pub record AsksOnly (allowed : DialerCall → Type 0) (old new : DialerState) : Type 0 where
  pub seen : List DialerCall
  pub told : new.told ≡ old.told
  pub calls : IsTrue new.told → new.calls ≡ old.calls ++ seen
  pub count : old.faults ≤ new.faults
  pub want_count : old.wants ≤ new.wants
  pub each : AllByRecursion allowed seen

-- the fetch of this package's file
abbrev pub IsFetchOf : PackageAvailable → DialerCall → Type 0
IsFetchOf item (Fetch url answer) = IsSomeAnd item.file (λ file. url ≡ file.download_url)
IsFetchOf item (Dial to headers done) = ⊥
IsFetchOf item (Exchange number question answer) = ⊥
IsFetchOf item (Arrived number answer) = ⊥

-- the fetch of the file of a package that isn't the one that is held
abbrev pub IsOwnFetch : List (Pair PackageStatus) → Pair PackageAvailable → DialerCall → Type 0
IsOwnFetch held item call = (is_same held item ≡ false) × IsFetchOf item.value call

-- the fetch of the file of an offered package that isn't the one that is held
pub record IsDueFetch (held : List (Pair PackageStatus)) (offered : List (Pair PackageAvailable)) (call : DialerCall) : Type 0 where
  pub item : Pair PackageAvailable
  pub among : Contains offered item
  pub own : IsOwnFetch held item call
