use Rattle.server_waves.proofs.CourseLemmas.{places_always}
use Rattle.server_waves.proofs.laws.members_have_places.Goals as goal

pub returns : goal.returns
returns c = record { places = λ fine terms steps uid. places_always fine terms steps uid }
