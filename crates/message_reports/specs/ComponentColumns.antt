-- The columns of an agent's components, each of which holds a map of such (OpAMP specification, "AvailableComponents Message", "ComponentDetails
-- Message").
use Rattle.std.specs.Prelude.{List}
use Rattle.message_values.specs.declared.attributes.KeyValue.{KeyValue}
use Rattle.message_values.specs.declared.components.AvailableComponents.{AvailableComponents}
use Rattle.message_values.specs.declared.components.ComponentDetails.{ComponentDetails, ComponentDetails-F, fold-ComponentDetails}
use Rattle.message_codec.specs.Values.{Content, Present, Several, Values, End, And}
use Rattle.message_codec.specs.Means.{entries_of}
use Rattle.message_codec.specs.Read.{each_of, arrived_of}
use Rattle.message_attributes.specs.AnyColumns.{pair_columns}
use Rattle.message_reports.specs.declared.components.AvailableComponentsDraft.{AvailableComponentsDraft}
use Rattle.message_reports.specs.declared.components.DetailsDraft.{DetailsDraft}
use Rattle.message_reports.specs.declared.components.DetailsEntryDraft.{DetailsEntryDraft}

abbrev pub details_row : List KeyValue → Values → Values
details_row metadata components = And (Several (each_of pair_columns metadata)) (And (Several components) End)

-- one layer, with the columns of each component in its place
abbrev pub details_layer : ComponentDetails-F Values → Values
details_layer d = details_row d.metadata (entries_of (λ vs. vs) d.sub_component_map)

abbrev pub details_columns : ComponentDetails → Values
details_columns = fold-ComponentDetails Values details_layer

-- the columns of a component that is read, and of an entry
abbrev pub details_draft_columns : DetailsDraft → Values
details_draft_columns d = details_row d.metadata (arrived_of details_columns d.sub_component_map)

abbrev pub details_entry_draft_columns : DetailsEntryDraft → Values
details_entry_draft_columns e = And (Content e.key) (And (Present (details_draft_columns e.value)) End)

abbrev pub available_components_columns : AvailableComponents → Values
available_components_columns a = And (Several (entries_of details_columns a.components)) (And (Content a.hash) End)

abbrev pub available_components_draft_columns : AvailableComponentsDraft → Values
available_components_draft_columns a = And (Several (arrived_of details_columns a.components)) (And (Content a.hash) End)
