-- The messages that are written (RFC 9112, sections 2 to 6).
use Rattle.std.specs.Prelude.{ℕ, Bool, List, [], ◌++◌, length, codes, if◌then◌else◌, ◌==◌}
use Rattle.std.specs.Fmt.{decimal}
use Rattle.std.specs.List.{flat_map}
use Rattle.httparse.specs.Ascii.{crlf_bytes}
use Rattle.edge_devices.specs.declared.endpoints.Endpoint.{Endpoint}
use Rattle.plain_values.specs.declared.headers.Header.{Header}

-- a line ends with CR LF
abbrev pub line : List ℕ → List ℕ
line text = text ++ crlf_bytes

abbrev pub host_line : Endpoint → List ℕ
host_line to = line (codes "Host: " ++ (to.host ++ (codes ":" ++ decimal to.port)))

abbrev pub first_line : List ℕ → Endpoint → List ℕ
first_line method to = line (method ++ (codes " " ++ (to.path ++ codes " HTTP/1.1")))

abbrev pub length_line : ℕ → List ℕ
length_line len = line (codes "Content-Length: " ++ decimal len)

abbrev pub header_line : Header → List ℕ
header_line header = line (header.key ++ (codes ": " ++ header.value))

abbrev pub type_line : List ℕ
type_line = line (codes "Content-Type: application/x-protobuf")

-- a request that posts the body
unfoldable pub request_text : Endpoint → List Header → List ℕ → List ℕ
request_text to headers body =
    first_line (codes "POST") to ++ (host_line to ++ (type_line ++ (length_line (length body) ++ (flat_map header_line headers ++ (crlf_bytes ++ body)))))

-- a request that gets what the endpoint names
unfoldable pub get_text : Endpoint → List ℕ
get_text to = first_line (codes "GET") to ++ (host_line to ++ crlf_bytes)

abbrev pub reason_of : ℕ → List ℕ
reason_of status =
    if status == 200 then codes "OK"
    else if status == 400 then codes "Bad Request"
    else if status == 404 then codes "Not Found"
    else if status == 405 then codes "Method Not Allowed"
    else if status == 413 then codes "Content Too Large"
    else if status == 415 then codes "Unsupported Media Type"
    else if status == 431 then codes "Request Header Fields Too Large"
    else if status == 503 then codes "Service Unavailable"
    else []

abbrev pub status_line : ℕ → List ℕ
status_line status = line (codes "HTTP/1.1 " ++ (decimal status ++ (codes " " ++ reason_of status)))

-- a response
unfoldable pub response_text : ℕ → List ℕ → Bool → List ℕ
response_text status body close =
    status_line status
    ++ ((if status == 405 then line (codes "Allow: POST") else [])
    ++ ((if status == 200 then type_line else [])
    ++ (length_line (length body) ++ ((if close then line (codes "Connection: close") else []) ++ (crlf_bytes ++ body)))))
