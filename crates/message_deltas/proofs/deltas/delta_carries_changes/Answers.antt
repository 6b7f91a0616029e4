use Rattle.message_deltas.proofs.ExactLemmas.{delta_exact}
use Rattle.message_deltas.proofs.deltas.delta_carries_changes.Goals as goal

pub returns : goal.returns
returns c = record { exactly = delta_exact }
