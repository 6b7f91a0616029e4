-- The lines of a component's details.
use Rattle.std.proofs.Common.{◌≡◌, ◌∙◌, List, ℕ, ◌++◌, codes, ap}
use Rattle.message_values.specs.declared.components.ComponentDetails.{ComponentDetails, out-ComponentDetails}
use Rattle.message_codec.specs.Tables as tables
use Rattle.message_codec.specs.Values.{Several}
use Rattle.message_codec.specs.Means.{entries_of}
use Rattle.message_codec.specs.Read.{each_of}
use Rattle.message_attributes.specs.AnyColumns.{pair_columns}
use Rattle.message_reports.specs.ComponentColumns.{details_columns}
use Rattle.message_reports.proofs.ComponentLaws.{details_out}
use Rattle.message_texts.specs.Words.{under}
use Rattle.message_texts.specs.Texts.{shown, column_lines, entry_lines}
use Rattle.message_texts.proofs.Lines.{lines_onto, shown_onto}

-- the metadata, before the components
abbrev pub front_shown : List ℕ → List ℕ → ComponentDetails → List ℕ
front_shown old path d = old ++ column_lines path (codes "metadata") (tables.Many tables.KeyValue) (Several (each_of pair_columns (out-ComponentDetails d).metadata))

pub details_shown : (old path : List ℕ) (d : ComponentDetails) → shown old path tables.ComponentDetails (details_columns d) ≡ front_shown old path d ++ entry_lines (under path (codes "sub_component_map")) tables.ComponentDetails (entries_of details_columns (out-ComponentDetails d).sub_component_map)
details_shown old path d = shown_onto old path tables.ComponentDetails _ ∙ ap (lines_onto old path (tables.rows_of tables.ComponentDetails)) (details_out d)
