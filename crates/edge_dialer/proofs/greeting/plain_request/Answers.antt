use Rattle.std.proofs.Common.{sym, subst}
use Rattle.http.specs.Request.{head_of}
use Rattle.http_uri.specs.declared.uri.Uri.{Uri}
use Rattle.http_uri.specs.Uri.{Spells}
use Rattle.edge_dialer.specs.Greetings.{ws_uri}
use Rattle.edge_dialer.proofs.Upgrading.{asks-plain}
use Rattle.edge_dialer.proofs.greeting.plain_request.Goals as goal

pub returns : goal.returns
returns c =
    let head = head_of c.new-request.result in
    let new = c.new-request.ensures.head in
    record {
      asks = asks-plain c.args.to.now (record head { uri = c.replace.new.dest }) new.headers new.method
          (subst (λ (uri : Uri). Spells (ws_uri c.args.to.now) uri) (sym c.replace.ensures.after) c.in_ok-uri.ensures.spells);
    }
