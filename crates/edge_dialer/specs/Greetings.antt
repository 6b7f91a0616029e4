-- What the handshake of a WebSocket connection asks with (RFC 6455, 3 and 4.1).
use Rattle.std.specs.Prelude.{◌≡◌, ℕ, List, [], ◌++◌, codes, fold}
use Rattle.std.specs.Fmt.{decimal}
use Rattle.http.specs.declared.request.Parts.{Parts}
use Rattle.http_header.specs.FieldValue.{FieldValue, plain_value}
use Rattle.http_header.specs.HeaderMap.{append}
use Rattle.http_header.specs.Token.{lowercase}
use Rattle.http_uri.specs.Uri.{Spells}
use Rattle.edge_devices.specs.declared.endpoints.Endpoint.{Endpoint}
use Rattle.plain_values.specs.declared.headers.Header.{Header}

-- the text of the endpoint's URI
abbrev pub ws_uri : Endpoint → List ℕ
ws_uri to = codes "ws://" ++ (to.host ++ (codes ":" ++ (decimal to.port ++ to.path)))

-- A header as a field: its name, which is compared without case (RFC 9110, 5.1), and its value.
abbrev pub field_of : Header → List ℕ × FieldValue
field_of header = (lowercase header.key, plain_value header.value)

-- the head with one field more, behind those of its name
abbrev pub with_field : Parts → Header → Parts
with_field head header = record head { headers = append head.headers (lowercase header.key) (plain_value header.value) }

-- the head with each of the fields, in turn
abbrev pub with_fields : Parts → List Header → Parts
with_fields head headers = fold with_field head headers

-- The head gets the endpoint's URI, with these headers as its fields and no others.
pub record AsksUpgrade (to : Endpoint) (headers : List Header) (head : Parts) : Type 0 where
  pub plain : Parts
  pub no_fields : plain.headers ≡ []
  pub method : plain.method ≡ codes "GET"
  pub uri : Spells (ws_uri to) plain.uri
  pub fields : head ≡ with_fields plain headers
