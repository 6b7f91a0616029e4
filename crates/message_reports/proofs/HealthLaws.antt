-- The columns of a health, layer by layer.
use Rattle.std.proofs.Common.{◌≡◌, [], ◌++◌, refl, ap, sym, ◌∙◌}
use Rattle.message_values.specs.declared.health.ComponentHealth.{ComponentHealth, ComponentHealth-F, out-ComponentHealth, roll-ComponentHealth, fold-roll-ComponentHealth, fold_out-ComponentHealth}
use Rattle.message_codec.specs.Tables as tables
use Rattle.message_codec.specs.Tables.{Keyed}
use Rattle.message_codec.specs.Values.{Values, Several}
use Rattle.message_codec.specs.Means.{entries_of}
use Rattle.message_codec.specs.Canonical.{canonical, canonical_onto, column_bytes}
use Rattle.message_reports.specs.HealthColumns.{health_row, health_layer, health_columns, front_rows, front_columns}
use Rattle.message_codec.proofs.Reading.{entries_seen}

-- a layer whose components are seen as their columns
abbrev pub health_seen : ComponentHealth-F ComponentHealth → Values
health_seen x = health_row x.healthy x.start_time_unix_nano x.last_error x.status x.status_time_unix_nano (entries_of health_columns x.component_health_map)

pub health_roll : (x : ComponentHealth-F ComponentHealth) → health_columns (roll-ComponentHealth x) ≡ health_seen x
health_roll x = fold-roll-ComponentHealth Values health_layer x ∙ ap (health_row x.healthy x.start_time_unix_nano x.last_error x.status x.status_time_unix_nano) (sym (entries_seen health_columns x.component_health_map))

pub health_out : (h : ComponentHealth) → health_columns h ≡ health_seen (out-ComponentHealth h)
health_out h = let x = out-ComponentHealth h in
    fold_out-ComponentHealth Values health_layer h ∙ ap (health_row x.healthy x.start_time_unix_nano x.last_error x.status x.status_time_unix_nano) (sym (entries_seen health_columns x.component_health_map))

-- the canonical bytes are those of the columns before the components, and those of the components
pub health_canonical : (h : ComponentHealth) → canonical tables.ComponentHealth (health_columns h) ≡ canonical_onto [] front_rows (front_columns h) ++ column_bytes 6 (Keyed tables.ComponentHealth) (Several (entries_of health_columns (out-ComponentHealth h).component_health_map))
health_canonical h = rw (health_out h) refl
