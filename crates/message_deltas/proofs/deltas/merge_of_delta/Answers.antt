use Rattle.message_deltas.proofs.DeltaLemmas.{merged_delta}
use Rattle.message_deltas.proofs.deltas.merge_of_delta.Goals as goal

pub returns : goal.returns
returns c = record { merged = merged_delta }
