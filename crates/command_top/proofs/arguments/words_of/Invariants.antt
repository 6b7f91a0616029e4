use Rattle.std.proofs.Common.{◌≡◌, ◌++◌, map, string_bytes}
use Rattle.std.specs.Vec.Iter.{into_iter_items}
use Rattle.command_top.proofs.arguments.words_of.Given as goal

-- what was taken are the words so far, and what is left are the others
abbrev pub invariant-loop-word : goal.invariant-loop-word
invariant-loop-word l = (l.words.items ≡ map string_bytes l.yielded) × (l.yielded ++ into_iter_items l.word-iterator ≡ into_iter_items l.initial.word-iterator)
