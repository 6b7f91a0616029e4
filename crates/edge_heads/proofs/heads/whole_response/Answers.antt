use Rattle.std.proofs.Common.{take}
use Rattle.edge_heads.specs.Rules.{headers_at}
use Rattle.edge_heads.proofs.Parsers.{response_whole}
use Rattle.edge_heads.proofs.heads.whole_response.Goals as goal

pub returns : goal.returns
returns c =
    let bytes = c.args.bytes.now in
    let r = c.args.found in
    let spans = c.args.spans.now in
    let headers = headers_at bytes (take r.headers spans) in
    response_whole bytes spans r c.requires.is.0 c.in_ok-head.head c.body_form-form.result c.requires.is.1
    c.requires.within.section.len_fits c.requires.within.section.count_fits c.requires.room
    c.in_ok-head.ensures
    c.body_form-form.ensures
