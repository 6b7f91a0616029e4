use Rattle.std.proofs.Common.{ap, ◌∙◌, take}
use Rattle.edge_heads.specs.declared.values.Side.TheVariants.{Requests}
use Rattle.edge_heads.specs.declared.values.BodyForm.{BodyForm}
use Rattle.edge_heads.specs.Heads.{form_on, head_with}
use Rattle.edge_heads.specs.Rules.{headers_at}
use Rattle.edge_heads.proofs.Parsers.{request_whole}
use Rattle.edge_heads.proofs.heads.whole_request.Goals as goal

pub returns : goal.returns
returns c =
    let bytes = c.args.bytes.now in
    let r = c.args.found in
    let spans = c.args.spans.now in
    let headers = headers_at bytes (take r.headers spans) in
    request_whole bytes spans r c.requires.is.0 c.in_ok-head.head c.request_form-form.result c.requires.is.1
    c.requires.within.section.len_fits c.requires.within.section.count_fits c.requires.room
    (c.in_ok-head.ensures ∙ (λ i. head_with (c.of-method.ensures i) (c.of-target.ensures i) 0 r.version headers))
    (c.request_form-form.ensures ∙ ap (λ (f : BodyForm). form_on Requests f) c.body_form.ensures)
