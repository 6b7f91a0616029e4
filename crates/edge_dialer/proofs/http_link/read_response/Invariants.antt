use Rattle.edge_dialer.proofs.Receiving.{IsReceiving}
use Rattle.edge_dialer.proofs.http_link.read_response.Given as goal

abbrev pub invariant-loop : goal.invariant-loop
invariant-loop g l = IsReceiving l.initial.reader l.reader (g.S.Read.remaining l.initial.stream) (g.S.Read.remaining l.stream)
