use Rattle.std.proofs.Common.{refl}
use Rattle.message_deltas.proofs.obligations.obliged.Goals as goal

pub returns : goal.returns
returns c = record { flags = refl }
