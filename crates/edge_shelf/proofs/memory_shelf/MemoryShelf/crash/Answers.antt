use Rattle.edge_shelf.proofs.Changing.{left_among, settled_left}
use Rattle.edge_shelf.proofs.memory_shelf.MemoryShelf.crash.Goals as goal

pub returns-clause-left : goal.returns-clause-left
returns-clause-left c = left_among _ _ c.args.mode c.in_ok-self.ensures.settled

pub returns-clause-settled : goal.returns-clause-settled
returns-clause-settled c = settled_left _ _ c.args.mode c.in_ok-self.ensures.settled
