use Rattle.message_handlers.proofs.Ordering.{Gathers}
use Rattle.message_handlers.proofs.handlers.set_of.Given as goal

abbrev pub invariant-loop-name : goal.invariant-loop-name
invariant-loop-name l = Gathers l.names l.name-index l.set
