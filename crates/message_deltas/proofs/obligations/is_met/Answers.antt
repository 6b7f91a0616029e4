use Rattle.std.proofs.Common.{refl}
use Rattle.message_deltas.proofs.obligations.is_met.Goals as goal

pub returns-else-not-is_obliged : goal.returns-else-not-is_obliged
returns-else-not-is_obliged c = rw c.if-not-is_obliged.false refl
