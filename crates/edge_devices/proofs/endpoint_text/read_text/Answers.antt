use Rattle.std.proofs.Common.{refl, ◌∙◌}
use Rattle.std.proofs.lemmas.List.{take_rest}
use Rattle.edge_devices.proofs.EndpointSchemes.{by_ws, by_http, reads_ws, reads_http}
use Rattle.edge_devices.proofs.endpoint_text.read_text.Goals as goal

pub read_rest-requires : goal.read_rest-requires
read_rest-requires c = by_ws c.args.text.now _ c.has_ws.result _ c.has_ws.ensures.scheme c.if-has_ws.true (take_rest c.args.text.now 5) refl ∙ c.requires

pub returns-then-has_ws : goal.returns-then-has_ws
returns-then-has_ws c = reads_ws c.args.text.now _ c.has_ws.result c.has_ws.ensures.scheme c.read_rest.result c.if-has_ws.true (take_rest c.args.text.now 5) c.read_rest.ensures

pub read_rest-requires-then-has_http : goal.read_rest-requires-then-has_http
read_rest-requires-then-has_http c =
    by_http c.args.text.now _ c.has_ws.result c.has_http.result _ c.has_ws.ensures.scheme c.if-has_ws.false c.has_http.ensures.scheme c.if-has_http.true (take_rest c.args.text.now 7) refl
    ∙ c.requires

pub returns-then-has_http : goal.returns-then-has_http
returns-then-has_http c =
    reads_http c.args.text.now _ c.has_ws.result c.has_ws.ensures.scheme c.read_rest-then-has_http.result c.if-has_ws.false (take_rest c.args.text.now 7) c.read_rest-then-has_http.ensures
