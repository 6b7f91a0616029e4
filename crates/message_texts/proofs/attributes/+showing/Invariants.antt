use Rattle.std.proofs.Common.{◌≡◌, ◌++◌, codes, take}
use Rattle.message_codec.specs.Tables as tables
use Rattle.message_attributes.specs.AnyColumns.{any_columns, pair_columns}
use Rattle.message_texts.specs.Words.{under}
use Rattle.message_texts.proofs.Lines.{each_text, message_text}
use Rattle.message_texts.proofs.attributes.+showing.Given as goal

abbrev pub invariant-show_values-loop-i : goal.invariant-show_values-loop-i
invariant-show_values-loop-i l = l.page ≡ l.initial.page ++ each_text (message_text any_columns tables.AnyValue (under l.fn.path (codes "values"))) 0 (take l.i l.values)

abbrev pub invariant-show_pairs-loop-i : goal.invariant-show_pairs-loop-i
invariant-show_pairs-loop-i l = l.page ≡ l.initial.page ++ each_text (message_text pair_columns tables.KeyValue (under l.fn.path (codes "values"))) 0 (take l.i l.pairs)
