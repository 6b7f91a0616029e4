use Rattle.shard_journals.proofs.OneDesk.{one_desk}
use Rattle.shard_journals.proofs.laws.one_desk_keeps_order.Goals as goal

pub returns : goal.returns
returns c = record { order = one_desk }
