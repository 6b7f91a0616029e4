use Rattle.edge_dialer.specs.Messages.{IsOther}
use Rattle.edge_dialer.proofs.Passing.{IsPassing}
use Rattle.edge_dialer.proofs.messages.first_binary.Given as goal

abbrev pub invariant-loop : goal.invariant-loop
invariant-loop g l = IsPassing IsOther g.S.Read.remaining l.initial.socket l.socket l.counter
