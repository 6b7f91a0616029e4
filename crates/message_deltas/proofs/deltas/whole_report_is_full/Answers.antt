use Rattle.message_deltas.proofs.DeltaLemmas.{merged_whole}
use Rattle.message_deltas.proofs.deltas.whole_report_is_full.Goals as goal

pub returns-clause-merged : goal.returns-clause-merged
returns-clause-merged c = merged_whole
