use Rattle.server_lines.proofs.SpellingLemmas.{read_of_spelled, spelled_of_read}
use Rattle.server_lines.proofs.laws.reading_is_spelling.Goals as goal

pub returns : goal.returns
returns c = record { exactly = λ words ordered. (spelled_of_read words ordered, read_of_spelled words ordered) }
