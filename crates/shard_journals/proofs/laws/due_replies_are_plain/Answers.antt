use Rattle.shard_journals.proofs.PlainLemmas.{due_plain}
use Rattle.shard_journals.proofs.laws.due_replies_are_plain.Goals as goal

pub returns : goal.returns
returns c = record { plain = due_plain }
