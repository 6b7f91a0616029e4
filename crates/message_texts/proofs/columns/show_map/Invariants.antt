use Rattle.std.proofs.Common.{◌≡◌, ◌++◌, take}
use Rattle.message_texts.specs.Words.{under}
use Rattle.message_texts.proofs.Lines.{each_text, entry_text}
use Rattle.message_texts.proofs.columns.show_map.Given as goal

abbrev pub invariant-loop-pair : goal.invariant-loop-pair
invariant-loop-pair g l = l.page ≡ l.initial.page ++ each_text (entry_text g.M.Shown.columns g.M.Shown.name (under l.fn.path l.fn.name)) 0 (take l.pair-index l.pair-items)
