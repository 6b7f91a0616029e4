-- The lines of a component's health.
use Rattle.std.proofs.Common.{◌≡◌, ◌∙◌, List, ℕ, ◌++◌, codes, ap}
use Rattle.message_values.specs.declared.health.ComponentHealth.{ComponentHealth, out-ComponentHealth}
use Rattle.message_codec.specs.Tables as tables
use Rattle.message_codec.specs.Values.{Flag, Number, Content}
use Rattle.message_codec.specs.Means.{entries_of}
use Rattle.message_reports.specs.HealthColumns.{health_columns}
use Rattle.message_reports.proofs.HealthLaws.{health_out}
use Rattle.message_texts.specs.Words.{under}
use Rattle.message_texts.specs.Texts.{shown, column_lines, entry_lines}
use Rattle.message_texts.proofs.Lines.{lines_onto, shown_onto}

-- the columns before the components
abbrev pub front_shown : List ℕ → List ℕ → ComponentHealth → List ℕ
front_shown old path h =
    let x = out-ComponentHealth h in
    ((((old ++ column_lines path (codes "healthy") tables.Truth (Flag x.healthy))
    ++ column_lines path (codes "start_time_unix_nano") tables.Fixed (Number x.start_time_unix_nano))
    ++ column_lines path (codes "last_error") tables.Text (Content x.last_error))
    ++ column_lines path (codes "status") tables.Text (Content x.status))
    ++ column_lines path (codes "status_time_unix_nano") tables.Fixed (Number x.status_time_unix_nano)

pub health_shown : (old path : List ℕ) (h : ComponentHealth) → shown old path tables.ComponentHealth (health_columns h) ≡ front_shown old path h ++ entry_lines (under path (codes "component_health_map")) tables.ComponentHealth (entries_of health_columns (out-ComponentHealth h).component_health_map)
health_shown old path h = shown_onto old path tables.ComponentHealth _ ∙ ap (lines_onto old path (tables.rows_of tables.ComponentHealth)) (health_out h)
