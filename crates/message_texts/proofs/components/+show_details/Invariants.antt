use Rattle.std.proofs.Common.{◌≡◌, ◌++◌, codes, take}
use Rattle.message_codec.specs.Tables as tables
use Rattle.message_reports.specs.ComponentColumns.{details_columns}
use Rattle.message_texts.specs.Words.{under}
use Rattle.message_texts.proofs.Lines.{each_text, entry_text}
use Rattle.message_texts.proofs.components.+show_details.Given as goal

abbrev pub invariant-loop-pair : goal.invariant-loop-pair
invariant-loop-pair l = l.page ≡ l.initial.page ++ each_text (entry_text details_columns tables.ComponentDetails (under l.fn.path (codes "sub_component_map"))) 0 (take l.pair-index l.pair-items)
