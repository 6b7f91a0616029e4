use Rattle.http.specs.Request.{head_of}
use Rattle.edge_dialer.proofs.Upgrading.{fields-on}
use Rattle.edge_dialer.proofs.greeting.add_headers.Goals as goal

pub loop-header-preserved : goal.loop-header-preserved
loop-header-preserved c =
    fields-on (head_of c.args.request.now) (head_of c.loop-header.request) (head_of c.add_header.new.request) c.as_slice-header-items.result.now
    c.loop-header.header-index c.header-item.result c.loop-header-test.true c.loop-header.invariant c.header-item.is c.in_ok-add_header.ensures.added
