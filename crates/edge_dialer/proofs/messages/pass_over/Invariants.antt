use Rattle.edge_dialer.specs.Messages.{IsNoClose}
use Rattle.edge_dialer.proofs.Passing.{IsPassing}
use Rattle.edge_dialer.proofs.messages.pass_over.Given as goal

abbrev pub invariant-loop : goal.invariant-loop
invariant-loop g l = IsPassing IsNoClose g.S.Read.remaining l.initial.socket l.socket l.counter
