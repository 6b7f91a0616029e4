use Rattle.std.proofs.Common.{◌∙◌, sym}
use Rattle.world_scripts.proofs.WordLemmas.{word_is_utf8}
use Rattle.world_scripts.proofs.words.text_of.Goals as goal

pub unreachable-requires : goal.unreachable-requires
unreachable-requires c = c.in-Err.ensures.cases.0 (word_is_utf8 c.args.word.now (sym c.is_word.ensures ∙ c.if-not-is_word.false))
