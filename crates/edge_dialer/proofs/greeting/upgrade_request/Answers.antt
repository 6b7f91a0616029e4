use Rattle.http.specs.Request.{head_of}
use Rattle.edge_dialer.proofs.Upgrading.{asks-with}
use Rattle.edge_dialer.proofs.greeting.upgrade_request.Goals as goal

pub returns : goal.returns
returns c = record {
  asks = asks-with c.args.to.now c.args.headers.now.headers (head_of c.in_ok-request.request) (head_of c.add_headers.new.request) c.in_ok-request.ensures.asks
      c.in_ok-add_headers.ensures.added;
}
