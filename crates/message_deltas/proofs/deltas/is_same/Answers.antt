use Rattle.message_deltas.proofs.SamenessLemmas.{is_same}
use Rattle.message_deltas.proofs.deltas.is_same.Goals as goal

pub returns : goal.returns
returns g c = λ code. is_same code c.args.value.now c.args.other.now c.same.result c.same.ensures.same
