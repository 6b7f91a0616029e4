use Rattle.std.proofs.lemmas.List.{take_rest}
use Rattle.edge_devices.proofs.EndpointSchemes.{by_ws, by_http, by_none}
use Rattle.edge_devices.proofs.endpoint_text.is_endpoint_text.Goals as goal

pub returns-then-has_ws : goal.returns-then-has_ws
returns-then-has_ws c = by_ws c.args.text.now _ c.has_ws.result c.is_rest.result c.has_ws.ensures.scheme c.if-has_ws.true (take_rest c.args.text.now 5) c.is_rest.ensures

pub returns-then-has_http : goal.returns-then-has_http
returns-then-has_http c =
    by_http c.args.text.now _ c.has_ws.result c.has_http.result c.is_rest-then-has_http.result c.has_ws.ensures.scheme c.if-has_ws.false c.has_http.ensures.scheme c.if-has_http.true
    (take_rest c.args.text.now 7) c.is_rest-then-has_http.ensures

pub returns : goal.returns
returns c = by_none c.args.text.now c.has_ws.result c.has_http.result c.has_ws.ensures.scheme c.if-has_ws.false c.has_http.ensures.scheme c.if-has_http.false
