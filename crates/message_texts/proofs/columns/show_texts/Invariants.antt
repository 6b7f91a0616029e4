use Rattle.std.proofs.Common.{◌≡◌, ◌++◌, take}
use Rattle.message_texts.specs.Words.{under}
use Rattle.message_texts.proofs.Lines.{each_text, quoted_text}
use Rattle.message_texts.proofs.columns.show_texts.Given as goal

abbrev pub invariant-loop-i : goal.invariant-loop-i
invariant-loop-i l = l.page ≡ l.initial.page ++ each_text (quoted_text (under l.fn.path l.fn.name)) 0 (take l.i l.texts)
