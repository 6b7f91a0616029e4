use Rattle.edge_http.proofs.StreamLaws.{one-stream, is-stream}
use Rattle.edge_http.proofs.laws.one_stream.Goals as goal

pub returns-clause-same : goal.returns-clause-same
returns-clause-same c = one-stream

pub returns-clause-reads : goal.returns-clause-reads
returns-clause-reads c side limit bytes ms s x = (x.rest, is-stream side limit bytes ms s x)
