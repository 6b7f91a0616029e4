-- What a handshake asks with, put together.
use Rattle.std.proofs.Common.{◌≡◌, ℕ, ◌+◌, ◌<◌, List, [], length, take, get_or, codes, refl, sym, ap, ◌∙◌}
use Rattle.std.proofs.lemmas.List.Sums.{fold_more}
use Rattle.http.specs.declared.request.Parts.{Parts}
use Rattle.http_uri.specs.Uri.{Spells}
use Rattle.edge_devices.specs.declared.endpoints.Endpoint.{Endpoint}
use Rattle.plain_values.specs.declared.headers.Header.{Header}
use Rattle.edge_dialer.specs.Greetings.{AsksUpgrade, with_field, with_fields, ws_uri}

-- with no header
pub asks-plain : (to : Endpoint) (head : Parts) → head.headers ≡ [] → head.method ≡ codes "GET" → Spells (ws_uri to) head.uri → AsksUpgrade to [] head
asks-plain to head none method uri = record { plain = head; no_fields = none; method = method; uri = uri; fields = refl }

-- with the headers that are added to it
pub asks-with : (to : Endpoint) (headers : List Header) (before after : Parts) → AsksUpgrade to [] before → after ≡ with_fields before headers
    → AsksUpgrade to headers after
asks-with to headers before after asks added = record {
  plain = asks.plain;
  no_fields = asks.no_fields;
  method = asks.method;
  uri = asks.uri;
  fields = added ∙ ap (λ (head : Parts). with_fields head headers) asks.fields;
}

-- one more header
pub fields-on : (base before after : Parts) (headers : List Header) (i : ℕ) (header : Header) → i < length headers
    → before ≡ with_fields base (take i headers) → header ≡ get_or headers i header → after ≡ with_field before header
    → after ≡ with_fields base (take (i + 1) headers)
fields-on base before after headers i header within was is added =
    added ∙ (ap (λ (head : Parts). with_field head header) was
    ∙ (ap (λ (h : Header). with_field (with_fields base (take i headers)) h) is ∙ sym (fold_more with_field base headers i header within)))
