-- The hash by which an agent tells its components (OpAMP specification, "AvailableComponents.hash").
use Rattle.std.specs.Prelude.{ℕ, List, [], ◌∷◌}
use Rattle.sha2.specs.Sha256.{sha256}
use Rattle.plain_values.specs.declared.maps.Pair.{Pair}
use Rattle.message_values.specs.declared.components.ComponentDetails.{ComponentDetails}
use Rattle.message_codec.specs.Tables as tables
use Rattle.message_codec.specs.Canonical.{canonical}
use Rattle.message_reports.specs.ComponentColumns.{available_components_columns}

-- the canonical bytes of the AvailableComponents with these components and no hash
unfoldable pub canonical_components : List (Pair ComponentDetails) → List ℕ
canonical_components components = canonical tables.AvailableComponents (available_components_columns (record { components = components; hash = [] }))

-- none for no components, else the SHA-256 of those bytes (FIPS 180-4)
abbrev pub components_hash : List (Pair ComponentDetails) → List ℕ
components_hash [] = []
components_hash (c ∷ components) = sha256 (canonical_components (c ∷ components))
