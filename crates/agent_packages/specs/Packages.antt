-- What is to be done for an offer of packages.
use Rattle.std.specs.Prelude.{ℕ, ℤ, pos, negsuc, zero, suc, filter, map, List, [], ◌∷◌, Bool, true, false, ◌&&◌, not, Option, Some, None, is_some, if◌then◌else◌}
use Rattle.std.specs.Str.{bytes_eq}
use Rattle.plain_values.specs.declared.maps.Pair.{Pair}
use Rattle.plain_values.specs.Pairs.{value_at}
use Rattle.message_values.specs.declared.packages.PackageStatus.{PackageStatus}
use Rattle.message_values.specs.declared.packages.PackageStatuses.{PackageStatuses}
use Rattle.message_values.specs.declared.packages.PackageAvailable.{PackageAvailable}
use Rattle.message_values.specs.declared.packages.PackagesAvailable.{PackagesAvailable}

abbrev pub is_empty : List ℕ → Bool
is_empty [] = true
is_empty (byte ∷ bytes) = false

-- the status of a package is that of an installed one
abbrev pub is_installed : ℤ → Bool
is_installed (pos zero) = true
is_installed (pos (suc n)) = false
is_installed (negsuc n) = false

-- the package that is held is installed with this hash
abbrev pub has_hash : Option PackageStatus → List ℕ → Bool
has_hash None hash = false
has_hash (Some status) hash = is_installed status.status && bytes_eq status.agent_has_hash hash

-- the offered package is the one that is held under its name
abbrev pub is_same : List (Pair PackageStatus) → Pair PackageAvailable → Bool
is_same held item = not (is_empty item.value.hash) && has_hash (value_at held item.key) item.value.hash

-- the offer as a whole is the one that is held
abbrev pub is_same_offer : PackageStatuses → PackagesAvailable → Bool
is_same_offer held offered = not (is_empty offered.all_packages_hash) && bytes_eq offered.all_packages_hash held.server_provided_all_packages_hash

-- the names of the packages that pass a test
abbrev pub names_where : {T : Type 0} → (Pair T → Bool) → List (Pair T) → List (List ℕ)
names_where test packages = map (λ item. item.key) (filter test packages)

-- the packages to fetch, those that stay as they are held, and those that are not offered any more
abbrev pub to_fetch : PackageStatuses → PackagesAvailable → List (List ℕ)
to_fetch held offered = if is_same_offer held offered then [] else names_where (λ item. not (is_same held.packages item)) offered.packages

abbrev pub to_keep : PackageStatuses → PackagesAvailable → List (List ℕ)
to_keep held offered = if is_same_offer held offered then map (λ item. item.key) held.packages else names_where (is_same held.packages) offered.packages

abbrev pub to_remove : PackageStatuses → PackagesAvailable → List (List ℕ)
to_remove held offered = if is_same_offer held offered then [] else names_where (λ item. not (is_some (value_at offered.packages item.key))) held.packages
