use Rattle.server_waves.proofs.CourseLemmas.{width_always}
use Rattle.server_waves.proofs.laws.width_is_kept.Goals as goal

pub returns : goal.returns
returns c = record { width = λ fine terms steps. width_always fine terms steps }
