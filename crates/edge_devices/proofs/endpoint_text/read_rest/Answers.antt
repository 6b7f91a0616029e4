use Rattle.std.proofs.Common.{◌≡◌, ℕ, ◌-◌, List, length, take, drop, not, ◌∙◌, ap}
use Rattle.std.specs.Prelude.{◌==◌}
use Rattle.std.specs.List.{list_all}
use Rattle.edge_devices.specs.Endpoints.{is_host_byte, is_path_byte, is_port, port_of, path_of, host_of, port_text, path_text, after_host}
use Rattle.edge_devices.proofs.EndpointParts.{all_front, front_is, behind, authority_port, authority_path}
use Rattle.edge_devices.proofs.endpoint_text.read_rest.Goals as goal

-- the bytes behind the host, as they are sliced
abbrev tail_of : List ℕ → ℕ → List ℕ
tail_of rest host_end = take (length rest - host_end) (drop host_end rest)

-- a port and a path that are cut off behind the host are those of the authority
port_is : (rest port : List ℕ) (host_end port_end : ℕ) → host_end ≡ length (host_of rest) → port_end ≡ length (port_text (tail_of rest host_end))
    → port ≡ take port_end (tail_of rest host_end) → port ≡ port_text (after_host rest)
port_is rest port host_end port_end host_len port_len is =
    front_is (λ byte. not (byte == 47)) (tail_of rest host_end) port port_end port_len is ∙ ap port_text (behind rest (host_of rest) host_end host_len)

path_is : (rest : List ℕ) (host_end port_end : ℕ) → host_end ≡ length (host_of rest) → port_end ≡ length (port_text (tail_of rest host_end))
    → tail_of (tail_of rest host_end) port_end ≡ path_text (after_host rest)
path_is rest host_end port_end host_len port_len =
    behind (tail_of rest host_end) (port_text (tail_of rest host_end)) port_end port_len ∙ ap path_text (behind rest (host_of rest) host_end host_len)

pub host_text_of-requires : goal.host_text_of-requires
host_text_of-requires c = all_front is_host_byte c.args.rest.now c.front.result.now c.host_len-host_end.result c.host_len-host_end.ensures.len c.front.ensures

pub port_number-port-requires : goal.port_number-port-requires
port_number-port-requires c =
    ap is_port (port_is c.args.rest.now _ c.host_len-host_end.result c.port_len-port_end.result c.host_len-host_end.ensures.len c.port_len-port_end.ensures.len c.front-2.ensures)
    ∙ authority_port c.args.rest.now c.requires

pub path_text_of-requires : goal.path_text_of-requires
path_text_of-requires c =
    ap (list_all is_path_byte) (path_is c.args.rest.now c.host_len-host_end.result c.port_len-port_end.result c.host_len-host_end.ensures.len c.port_len-port_end.ensures.len)
    ∙ authority_path c.args.rest.now c.requires

pub returns : goal.returns
returns c =
    let rest = c.args.rest.now in
    let host = c.in_ok-host.ensures ∙ front_is is_host_byte rest c.front.result.now c.host_len-host_end.result c.host_len-host_end.ensures.len c.front.ensures in
    let port = c.port_number-port.ensures
    ∙ ap port_of (port_is rest _ c.host_len-host_end.result c.port_len-port_end.result c.host_len-host_end.ensures.len c.port_len-port_end.ensures.len c.front-2.ensures) in
    let path = c.in_ok-path.ensures
    ∙ ap path_of (path_is rest c.host_len-host_end.result c.port_len-port_end.result c.host_len-host_end.ensures.len c.port_len-port_end.ensures.len) in
    λ i. record { ws = c.args.ws; host = host i; port = port i; path = path i }
