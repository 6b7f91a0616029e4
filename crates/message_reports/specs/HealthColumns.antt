-- The columns of a component's health, which holds a map of such.
use Rattle.std.specs.Prelude.{ℕ, Bool, List, take}
use Rattle.message_values.specs.declared.health.ComponentHealth.{ComponentHealth, ComponentHealth-F, fold-ComponentHealth, out-ComponentHealth}
use Rattle.message_codec.specs.Tables as tables
use Rattle.message_codec.specs.Tables.{Row, rows_of}
use Rattle.message_codec.specs.Values.{Number, Flag, Content, Present, Several, Values, End, And}
use Rattle.message_codec.specs.Means.{entries_of}
use Rattle.message_codec.specs.Read.{arrived_of}
use Rattle.message_reports.specs.declared.health.HealthDraft.{HealthDraft}
use Rattle.message_reports.specs.declared.health.HealthEntryDraft.{HealthEntryDraft}

abbrev pub health_row : Bool → ℕ → List ℕ → List ℕ → ℕ → Values → Values
health_row healthy start error status time components = And (Flag healthy) (And (Number start) (And (Content error) (And (Content status) (And (Number time) (And (Several components) End)))))

-- one layer, with the columns of each component in its place
abbrev pub health_layer : ComponentHealth-F Values → Values
health_layer h = health_row h.healthy h.start_time_unix_nano h.last_error h.status h.status_time_unix_nano (entries_of (λ vs. vs) h.component_health_map)

abbrev pub health_columns : ComponentHealth → Values
health_columns = fold-ComponentHealth Values health_layer

-- the columns of a health that is read, and of an entry
abbrev pub health_draft_columns : HealthDraft → Values
health_draft_columns d = health_row d.healthy d.start_time_unix_nano d.last_error d.status d.status_time_unix_nano (arrived_of health_columns d.component_health_map)

abbrev pub health_entry_draft_columns : HealthEntryDraft → Values
health_entry_draft_columns e = And (Content e.key) (And (Present (health_draft_columns e.value)) End)

-- the columns before the components, and their rows
abbrev pub front_rows : List Row
front_rows = take 5 (rows_of tables.ComponentHealth)

abbrev pub front_columns : ComponentHealth → Values
front_columns h = let x = out-ComponentHealth h in And (Flag x.healthy) (And (Number x.start_time_unix_nano) (And (Content x.last_error) (And (Content x.status) (And (Number x.status_time_unix_nano) End))))
