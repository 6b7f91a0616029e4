use Rattle.std.proofs.Common.{rules, tests, Bor, List, ℕ}
use Rattle.std.proofs.lemmas.Iterator.{YieldsList-from_slice}
use Rattle.std.proofs.lemmas.Iterator.Search.{all_from_yields_List}
use Rattle.server_lines.specs.Words.{is_word}
use Rattle.server_lines.proofs.lines.are_filled.Goals as goal

pub returns : goal.returns
returns c =
    record { filled = all_from_yields_List (λ (word : Bor (List ℕ)). is_word word.now) _ _ _ c.all.ensures.ran (YieldsList-from_slice c.args.words.now c.iter.ensures.rest) (λ x b q k. search (rules, tests)) }
