-- The columns of what is kept, row by row of its table.
use Rattle.std.specs.Prelude.{ℕ, zero, suc, List, drop}
use Rattle.message_codec.specs.Tables.{SavedState, Row, rows_of}
use Rattle.message_codec.specs.Values.{Value, Number, Flag, Content, Absent, Present, Values, End, And}
use Rattle.message_codec.specs.Read.{one_of, raw_of}
use Rattle.message_attributes.specs.PartColumns.{config_map_columns, config_map_draft_columns}
use Rattle.message_reports.specs.Columns.{remote_config_status_columns, package_statuses_columns, package_statuses_draft_columns}
use Rattle.message_replies.specs.ReplyColumns.{headers_columns}
use Rattle.agent_rules.specs.declared.saved.Saved.{Saved}
use Rattle.agent_rules.specs.declared.parts.SavedParts.{SavedParts}
use Rattle.agent_rules.specs.declared.drafts.SavedDraft.{SavedDraft}
use Rattle.agent_rules.specs.declared.drafts.ChangeDraft.{ChangeDraft}

abbrev pub saved_columns : Saved → Values
saved_columns s =
    And (Content s.uid)
    (And (Number s.limit)
    (And (Flag s.uid_given)
    (And (Content s.settings.endpoint)
    (And (Present (headers_columns s.settings.headers))
    (And (Number s.settings.interval)
    (And (Content s.settings.hash)
    (And (Present (config_map_columns s.config))
    (And (Present (remote_config_status_columns s.remote))
    (And (Present (package_statuses_columns s.packages))
    (And (Content s.config_hash)
    (And (Content s.components_hash) End)))))))))))

-- the rows and the columns of a value from its configuration on
abbrev pub later_rows : List Row
later_rows = drop 7 (rows_of SavedState)

abbrev pub later_columns : Saved → Values
later_columns s =
    And (Present (config_map_columns s.config))
    (And (Present (remote_config_status_columns s.remote))
    (And (Present (package_statuses_columns s.packages))
    (And (Content s.config_hash)
    (And (Content s.components_hash) End))))

-- the same of fields of which not all are known to be right
abbrev pub parts_columns : SavedParts → Values
parts_columns p =
    And (Content p.uid)
    (And (Number p.limit)
    (And (Flag p.uid_given)
    (And (Content p.endpoint)
    (And (Present (headers_columns p.headers))
    (And (Number p.interval)
    (And (Content p.settings_hash)
    (And (Present (config_map_columns p.config))
    (And (Present (remote_config_status_columns p.remote))
    (And (Present (package_statuses_columns p.packages))
    (And (Content p.config_hash)
    (And (Content p.components_hash) End)))))))))))

-- the columns of fields that are read
abbrev pub draft_columns : SavedDraft → Values
draft_columns d =
    And (Content d.uid)
    (And (Number d.limit)
    (And (Flag d.uid_given)
    (And (Content d.endpoint)
    (And (one_of headers_columns d.headers)
    (And (Number d.interval)
    (And (Content d.settings_hash)
    (And (one_of config_map_draft_columns d.config)
    (And (one_of remote_config_status_columns d.remote)
    (And (one_of package_statuses_draft_columns d.packages)
    (And (Content d.config_hash)
    (And (Content d.components_hash) End)))))))))))

-- the columns of a change that is read
abbrev pub change_columns : ChangeDraft → Values
change_columns c =
    And (raw_of c.uid)
    (And (raw_of c.limit)
    (And (raw_of c.uid_given)
    (And (raw_of c.endpoint)
    (And (raw_of c.headers)
    (And (raw_of c.interval)
    (And (raw_of c.settings_hash)
    (And (raw_of c.config)
    (And (raw_of c.remote)
    (And (raw_of c.packages)
    (And (raw_of c.config_hash)
    (And (raw_of c.components_hash) End)))))))))))

-- the column at a place, counted from 0
abbrev pub column_at : ℕ → Values → Value
column_at n End = Absent
column_at zero (And v vs) = v
column_at (suc n) (And v vs) = column_at n vs
