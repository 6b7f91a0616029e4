use Rattle.std.proofs.Common.{◌≡◌, ◌++◌, codes, take}
use Rattle.message_codec.specs.Tables as tables
use Rattle.message_reports.specs.HealthColumns.{health_columns}
use Rattle.message_texts.specs.Words.{under}
use Rattle.message_texts.proofs.Lines.{each_text, entry_text}
use Rattle.message_texts.proofs.health.+show_health.Given as goal

abbrev pub invariant-loop-pair : goal.invariant-loop-pair
invariant-loop-pair l = l.page ≡ l.initial.page ++ each_text (entry_text health_columns tables.ComponentHealth (under l.fn.path (codes "component_health_map"))) 0 (take l.pair-index l.pair-items)
