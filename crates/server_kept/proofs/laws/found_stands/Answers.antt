use Rattle.server_kept.proofs.FoundLemmas.{finds_all}
use Rattle.server_kept.proofs.laws.found_stands.Goals as goal

pub returns : goal.returns
returns c = record { stands = finds_all }
