-- The columns of a component's details, layer by layer.
use Rattle.std.proofs.Common.{◌≡◌, ℕ, List, ◌++◌, refl, ap, sym, ◌∙◌}
use Rattle.message_values.specs.declared.components.ComponentDetails.{ComponentDetails, ComponentDetails-F, out-ComponentDetails, roll-ComponentDetails, fold-roll-ComponentDetails, fold_out-ComponentDetails}
use Rattle.message_codec.specs.Tables as tables
use Rattle.message_codec.specs.Tables.{Many, Keyed}
use Rattle.message_codec.specs.Values.{Values, Several}
use Rattle.message_codec.specs.Means.{entries_of}
use Rattle.message_codec.specs.Read.{each_of}
use Rattle.message_codec.proofs.Reading.{entries_seen}
use Rattle.message_codec.specs.Canonical.{canonical, column_bytes}
use Rattle.message_attributes.specs.AnyColumns.{pair_columns}
use Rattle.message_reports.specs.ComponentColumns.{details_row, details_layer, details_columns}

-- a layer whose components are seen as their columns
abbrev pub details_seen : ComponentDetails-F ComponentDetails → Values
details_seen x = details_row x.metadata (entries_of details_columns x.sub_component_map)

pub details_roll : (x : ComponentDetails-F ComponentDetails) → details_columns (roll-ComponentDetails x) ≡ details_seen x
details_roll x = fold-roll-ComponentDetails Values details_layer x ∙ ap (details_row x.metadata) (sym (entries_seen details_columns x.sub_component_map))

pub details_out : (d : ComponentDetails) → details_columns d ≡ details_seen (out-ComponentDetails d)
details_out d = let x = out-ComponentDetails d in fold_out-ComponentDetails Values details_layer d ∙ ap (details_row x.metadata) (sym (entries_seen details_columns x.sub_component_map))

-- the bytes of the metadata, and those of the components
abbrev pub metadata_of : ComponentDetails → List ℕ
metadata_of d = column_bytes 1 (Many tables.KeyValue) (Several (each_of pair_columns (out-ComponentDetails d).metadata))

abbrev pub parts_of : ComponentDetails → List ℕ
parts_of d = column_bytes 2 (Keyed tables.ComponentDetails) (Several (entries_of details_columns (out-ComponentDetails d).sub_component_map))

-- the canonical bytes are both
pub details_canonical : (d : ComponentDetails) → canonical tables.ComponentDetails (details_columns d) ≡ metadata_of d ++ parts_of d
details_canonical d = rw (details_out d) refl
