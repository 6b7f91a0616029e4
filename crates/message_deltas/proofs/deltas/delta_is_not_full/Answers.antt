use Rattle.message_deltas.proofs.DeltaLemmas.{delta_not_full}
use Rattle.message_deltas.proofs.deltas.delta_is_not_full.Goals as goal

pub returns : goal.returns
returns c = record { not_full = delta_not_full }
