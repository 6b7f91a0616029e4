-- Which files of packages an offer may change.
use Rattle.std.specs.Prelude.{◌≡◌, ℕ, List, Bool, false, ◌||◌, not, is_some}
use Rattle.std.specs.List.{list_any}
use Rattle.std.specs.Str.{bytes_eq}
use Rattle.plain_values.specs.declared.maps.Pair.{Pair}
use Rattle.message_values.specs.declared.packages.PackageAvailable.{PackageAvailable}
use Rattle.message_values.specs.declared.packages.PackageStatus.{PackageStatus}
use Rattle.message_values.specs.declared.packages.PackageStatuses.{PackageStatuses}
use Rattle.message_values.specs.declared.packages.PackagesAvailable.{PackagesAvailable}
use Rattle.plain_values.specs.Pairs.{value_at}
use Rattle.edge_devices.specs.declared.folders.Area.TheVariants.{Packages}
use Rattle.edge_devices.specs.Folders.{FolderState}
use Rattle.agent_packages.specs.Packages.{is_same, names_where, to_fetch, to_remove}

-- the name is one of these
abbrev pub is_named : List (List ℕ) → List ℕ → Bool
is_named names name = list_any (λ other. bytes_eq other name) names

-- the names of the packages to fetch, and of those that are not offered any more
abbrev pub fetched_names : List (Pair PackageStatus) → List (Pair PackageAvailable) → List (List ℕ)
fetched_names held items = names_where (λ item. not (is_same held item)) items

abbrev pub gone_names : List (Pair PackageAvailable) → List (Pair PackageStatus) → List (List ℕ)
gone_names offered items = names_where (λ item. not (is_some (value_at offered item.key))) items

-- a package of that name is to be fetched, or is held and not offered any more
abbrev pub is_touched : PackageStatuses → PackagesAvailable → List ℕ → Bool
is_touched held offered name = is_named (to_fetch held offered) name || is_named (to_remove held offered) name

-- The files of packages are as they were, but for those of these names.
abbrev pub KeepsOthers : (List ℕ → Bool) → FolderState → FolderState → Type 0
KeepsOthers touched old new = (name : List ℕ) → touched name ≡ false → new.files Packages name ≡ old.files Packages name
