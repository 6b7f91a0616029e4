-- How a package of an offer ended.
use Rattle.std.specs.Prelude.{◌≡◌, ◌≢◌, ℕ, List, [], ◌∷◌, map, filter, fold, Bool, true, false, not, if◌then◌else◌, Option, Some, None, IsSomeAnd, IsSome, is_some}
use Rattle.std.specs.Option.{option_map_or}
use Rattle.std.specs.List.{flat_map, AllByRecursion}
use Rattle.plain_values.specs.declared.maps.Pair.{Pair}
use Rattle.plain_values.specs.Pairs.{value_at, put_pair}
use Rattle.message_values.specs.declared.packages.PackageStatus.{PackageStatus}
use Rattle.message_values.specs.declared.packages.PackageStatuses.{PackageStatuses}
use Rattle.message_values.specs.declared.packages.PackagesAvailable.{PackagesAvailable}
use Rattle.agent_packages.specs.Packages.{is_same}
use Rattle.agent_packages.specs.Statuses.{status_after, status_left}
use Rattle.sha2.specs.Sha256.{sha256}
use Rattle.message_values.specs.declared.packages.DownloadableFile.{DownloadableFile}
use Rattle.message_values.specs.declared.packages.PackageAvailable.{PackageAvailable}
use Rattle.edge_devices.specs.declared.folders.Area.TheVariants.{Packages}
use Rattle.edge_devices.specs.declared.folders.FolderCall.{FolderCall}
use Rattle.edge_devices.specs.declared.folders.FolderCall.TheVariants.{Write, Remove}
use Rattle.edge_devices.specs.declared.dialers.DialerCall.{DialerCall}
use Rattle.edge_devices.specs.declared.dialers.DialerCall.TheVariants.{Fetch}
use Rattle.edge_devices.specs.Dialers.{DialerState, Asks}
use Rattle.edge_devices.specs.Folders.{FolderState, Makes}
use Rattle.edge_devices.specs.Names.{is_good_name}
use Rattle.agent_packages.specs.declared.install.Ended.{Ended}
use Rattle.agent_packages.specs.declared.install.Ended.TheVariants.{Installed, BadName, NoFile, FetchFault, HashDiffers, FolderFault}

-- the offered file has this content
abbrev pub IsContent : Option DownloadableFile → List ℕ → Type 0
IsContent file content = IsSomeAnd file (λ file. sha256 content ≡ file.content_hash)

abbrev pub IsOtherContent : Option DownloadableFile → List ℕ → Type 0
IsOtherContent file content = IsSomeAnd file (λ file. sha256 content ≢ file.content_hash)

-- A package to fetch, of which this content was fetched, ends so: the first of these that holds.
abbrev pub EndsSo : List ℕ → PackageAvailable → List ℕ → Ended → Type 0
EndsSo name item content BadName = is_good_name name ≡ false
EndsSo name item content NoFile = (is_good_name name ≡ true) × (item.file ≡ None)
EndsSo name item content FetchFault = (is_good_name name ≡ true) × IsSome item.file
EndsSo name item content HashDiffers = (is_good_name name ≡ true) × IsOtherContent item.file content
EndsSo name item content FolderFault = (is_good_name name ≡ true) × IsContent item.file content
EndsSo name item content Installed = (is_good_name name ≡ true) × IsContent item.file content

abbrev pub url_of : Option DownloadableFile → List ℕ
url_of None = []
url_of (Some file) = file.download_url

-- the package's own fetch
abbrev pub fetches : PackageAvailable → List ℕ → Ended → List DialerCall
fetches item content BadName = []
fetches item content NoFile = []
fetches item content FetchFault = Fetch (url_of item.file) None ∷ []
fetches item content HashDiffers = Fetch (url_of item.file) (Some content) ∷ []
fetches item content FolderFault = Fetch (url_of item.file) (Some content) ∷ []
fetches item content Installed = Fetch (url_of item.file) (Some content) ∷ []

-- the package's own write
abbrev pub writes : List ℕ → List ℕ → Ended → List FolderCall
writes name content FolderFault = Write Packages name content false ∷ []
writes name content Installed = Write Packages name content true ∷ []
writes name content _ = []

-- The package ended so, by its own calls.
pub record Installs (dialer dialer' : DialerState) (folder folder' : FolderState) (name : List ℕ) (item : PackageAvailable) (ended : Ended) : Type 0 where
  pub content : List ℕ
  pub ends : EndsSo name item content ended
  pub fetched : Asks dialer dialer' (fetches item content ended)
  pub written : Makes folder folder' (writes name content ended)

-- What became of an offered package: none where it is the one that is held, and else how it ended, with what its fetch
-- gave.
pub record Visit : Type 0 where
  pub item : Pair PackageAvailable
  pub ended : Option Ended
  pub content : List ℕ

abbrev pub IsVisitSo : List (Pair PackageStatus) → Pair PackageAvailable → List ℕ → Option Ended → Type 0
IsVisitSo held item content None = is_same held item ≡ true
IsVisitSo held item content (Some ended) = (is_same held item ≡ false) × EndsSo item.key item.value content ended

abbrev pub IsVisit : List (Pair PackageStatus) → Visit → Type 0
IsVisit held visit = IsVisitSo held visit.item visit.content visit.ended

abbrev pub visit_fetches : Visit → List DialerCall
visit_fetches visit = option_map_or (fetches visit.item.value visit.content) visit.ended []

abbrev pub visit_writes : Visit → List FolderCall
visit_writes visit = option_map_or (writes visit.item.key visit.content) visit.ended []

-- the status under its name, where there is one
abbrev pub under : List ℕ → Option PackageStatus → List (Pair PackageStatus)
under name None = []
under name (Some status) = record { key = name; value = status } ∷ []

-- a package that is the one held keeps its status
abbrev pub status_so : List (Pair PackageStatus) → Pair PackageAvailable → Option Ended → Option PackageStatus
status_so held item None = value_at held item.key
status_so held item (Some ended) = Some (status_after item.key item.value (value_at held item.key) ended)

abbrev pub visit_statuses : List (Pair PackageStatus) → Visit → List (Pair PackageStatus)
visit_statuses held visit = under visit.item.key (status_so held visit.item visit.ended)

abbrev pub put_next : List (Pair PackageStatus) → Pair PackageStatus → List (Pair PackageStatus)
put_next made status = put_pair made status.key status.value

-- The offered packages were visited one after the other, and their statuses put in the map.
pub record IsVisited (dialer dialer' : DialerState) (folder folder' : FolderState) (held : List (Pair PackageStatus)) (items : List (Pair PackageAvailable))
    (made made' : List (Pair PackageStatus)) : Type 0 where
  pub visits : List Visit
  pub items_are : map (λ visit. visit.item) visits ≡ items
  pub each : AllByRecursion (IsVisit held) visits
  pub fetched : Asks dialer dialer' (flat_map visit_fetches visits)
  pub written : Makes folder folder' (flat_map visit_writes visits)
  pub statuses : made' ≡ fold put_next made (flat_map (visit_statuses held) visits)

-- What became of a package that is not offered any more: whether its status is left out.
pub record Departure : Type 0 where
  pub item : Pair PackageStatus
  pub out : Bool

abbrev pub IsDeparture : Departure → Type 0
IsDeparture departure = is_good_name departure.item.key ≡ false → departure.out ≡ true

-- the package's own remove
abbrev pub departure_removes : Departure → List FolderCall
departure_removes departure = if is_good_name departure.item.key then Remove Packages departure.item.key departure.out ∷ [] else []

abbrev pub departure_statuses : Departure → List (Pair PackageStatus)
departure_statuses departure = if departure.out then [] else record { key = departure.item.key; value = status_left departure.item.value } ∷ []

-- The folder made the package's own remove, if there is one, and so its status is left out or not.
pub record RemovesSo (folder folder' : FolderState) (name : List ℕ) (out : Bool) : Type 0 where
  pub bad : is_good_name name ≡ false → out ≡ true
  pub removed : Makes folder folder' (if is_good_name name then Remove Packages name out ∷ [] else [])

-- The packages that are not offered any more were removed one after the other.
pub record IsCleared (folder folder' : FolderState) (items : List (Pair PackageStatus)) (made made' : List (Pair PackageStatus)) : Type 0 where
  pub departures : List Departure
  pub items_are : map (λ departure. departure.item) departures ≡ items
  pub each : AllByRecursion IsDeparture departures
  pub removed : Makes folder folder' (flat_map departure_removes departures)
  pub statuses : made' ≡ fold put_next made (flat_map departure_statuses departures)

-- The offer was done: its packages one after the other, and then those that are not offered any more.
pub record IsSynced (dialer dialer' : DialerState) (folder folder' : FolderState) (held : PackageStatuses) (offered : PackagesAvailable) (made : List (Pair PackageStatus)) : Type 0 where
  pub folder_between : FolderState
  pub made_between : List (Pair PackageStatus)
  pub visited : IsVisited dialer dialer' folder folder_between held.packages offered.packages [] made_between
  pub cleared : IsCleared folder_between folder' (filter (λ item. not (is_some (value_at offered.packages item.key))) held.packages) made_between made
