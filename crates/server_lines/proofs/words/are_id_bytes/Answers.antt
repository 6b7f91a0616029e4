use Rattle.std.proofs.Common.{rules, tests, ℕ}
use Rattle.std.proofs.lemmas.Iterator.{YieldsList-from_slice}
use Rattle.std.proofs.lemmas.Iterator.Search.{all_from_yields_List}
use Rattle.server_lines.specs.Words.{is_id_byte}
use Rattle.server_lines.proofs.words.are_id_bytes.Goals as goal

pub returns : goal.returns
returns c =
    record { parts = all_from_yields_List (λ (byte : ℕ). is_id_byte byte) _ _ _ c.all.ensures.ran (YieldsList-from_slice c.args.word.now c.iter.ensures.rest) (λ x b q k. search (rules, tests)) }
