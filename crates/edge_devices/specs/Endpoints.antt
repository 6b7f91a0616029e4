-- The grammar of endpoints: the URLs of OpAMP's WebSocket and plain HTTP transports, by the parts of RFC 3986, 3.
use Rattle.std.specs.Prelude.{ℕ, ◌+◌, ◌*◌, ◌-◌, List, [], ◌∷◌, length, drop, take_while, fold, Bool, true, ◌==◌, nat_le, nat_eq, ◌&&◌, ◌||◌, not, Option, Some, None, if◌then◌else◌, codes}
use Rattle.std.specs.List.{list_all, starts_with}
use Rattle.edge_devices.specs.declared.endpoints.Endpoint.{Endpoint}

abbrev pub is_digit : ℕ → Bool
is_digit byte = nat_le 48 byte && nat_le byte 57

-- a letter, a digit, `.` or `-`
abbrev pub is_host_byte : ℕ → Bool
is_host_byte byte = (nat_le 97 byte && nat_le byte 122) || ((nat_le 65 byte && nat_le byte 90) || (is_digit byte || ((byte == 46) || (byte == 45))))

-- visible ASCII
abbrev pub is_path_byte : ℕ → Bool
is_path_byte byte = nat_le 33 byte && nat_le byte 126

abbrev pub is_ws : List ℕ → Bool
is_ws text = starts_with nat_eq text (codes "ws://")

abbrev pub is_http : List ℕ → Bool
is_http text = starts_with nat_eq text (codes "http://")

-- what comes after the scheme
unfoldable pub after_scheme : List ℕ → List ℕ
after_scheme text = if is_ws text then drop 5 text else drop 7 text

-- the longest run of host bytes, and what comes after it
abbrev pub host_of : List ℕ → List ℕ
host_of rest = take_while is_host_byte rest

abbrev pub after_host : List ℕ → List ℕ
after_host rest = drop (length (host_of rest)) rest

-- what stands before the first `/`
abbrev pub port_text : List ℕ → List ℕ
port_text tail = take_while (λ byte. not (byte == 47)) tail

abbrev pub path_text : List ℕ → List ℕ
path_text tail = drop (length (port_text tail)) tail

-- the number that the digits spell
abbrev pub number_of : List ℕ → ℕ
number_of digits = fold (λ n digit. 10 * n + (digit - 48)) 0 digits

-- one to five digits that spell a number from 1 to 65,535
abbrev pub is_port_number : List ℕ → Bool
is_port_number digits = (nat_le 1 (length digits) && nat_le (length digits) 5) && (list_all is_digit digits && (nat_le 1 (number_of digits) && nat_le (number_of digits) 65535))

-- nothing, or `:` and a port
abbrev pub is_port : List ℕ → Bool
is_port [] = true
is_port (colon ∷ digits) = (colon == 58) && is_port_number digits

-- without a port it is 80
abbrev pub port_of : List ℕ → ℕ
port_of [] = 80
port_of (colon ∷ digits) = number_of digits

-- without a path it is that of OpAMP
abbrev pub path_of : List ℕ → List ℕ
path_of [] = codes "/v1/opamp"
path_of (byte ∷ bytes) = byte ∷ bytes

abbrev pub is_host : List ℕ → Bool
is_host host = nat_le 1 (length host) && nat_le (length host) 253

-- a host, then a port or none, then a path or none
abbrev pub is_authority : List ℕ → Bool
is_authority rest = is_host (host_of rest) && (is_port (port_text (after_host rest)) && list_all is_path_byte (path_text (after_host rest)))

-- `ws://` or `http://`, and then a host, a port and a path
abbrev pub is_endpoint : List ℕ → Bool
is_endpoint text = (is_ws text || is_http text) && is_authority (after_scheme text)

abbrev pub endpoint_with : Bool → List ℕ → Endpoint
endpoint_with ws rest = record {
  ws = ws;
  host = host_of rest;
  port = port_of (port_text (after_host rest));
  path = path_of (path_text (after_host rest));
}

-- what the text of an endpoint says
abbrev pub endpoint_of : List ℕ → Endpoint
endpoint_of text = endpoint_with (is_ws text) (after_scheme text)

-- the endpoint, where the text is of the grammar
abbrev pub reading_of : List ℕ → Option Endpoint
reading_of text = if is_endpoint text then Some (endpoint_of text) else None
