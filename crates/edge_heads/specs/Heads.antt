-- The head of a message (RFC 9112, sections 2 to 5), by the grammar of `httparse`.
use Rattle.std.specs.Prelude.{◌≡◌, ℕ, zero, suc, ◌<◌, ◌≤◌, ◌⊎◌, Bool, ◌||◌, not, ◌==◌, List, [], ◌∷◌, ◌++◌, length, take, map, codes, if◌then◌else◌}
use Rattle.httparse.specs.Ascii.{line_feed, space}
use Rattle.httparse.specs.Grammar.{AllPass, IsToken, LineEnd, print_blank, Field, RequestHead, print_request, IsRequestHead, ResponseHead, print_response, IsResponseHead, status_code}
use Rattle.httparse.specs.Pieces.{is_newline}
use Rattle.httparse.specs.Spans.{name_and_value}
use Rattle.edge_heads.specs.declared.TheConstants.{HEAD_LIMIT, HEADER_LIMIT, LINE_LIMIT}
use Rattle.edge_heads.specs.declared.values.Side.{Side}
use Rattle.edge_heads.specs.declared.values.Side.TheVariants.{Requests, Responses}
use Rattle.edge_heads.specs.declared.values.BodyForm.{BodyForm}
use Rattle.edge_heads.specs.declared.values.BodyForm.TheVariants.{Sized, Chunked, Missing, Wrong}
use Rattle.edge_heads.specs.declared.values.HttpHead.{HttpHead}
use Rattle.edge_heads.specs.Headers.{Header, has_value, is_protobuf, is_coded, is_close, body_form}

-- a head, of a request or of a response
pub data Head : Type 0 where
  asks : RequestHead → Head
  answers : ResponseHead → Head

abbrev pub print_head : Head → List ℕ
print_head (asks h) = print_request h
print_head (answers h) = print_response h

abbrev pub fields_of : Head → List Field
fields_of (asks h) = h.fields
fields_of (answers h) = h.fields

abbrev pub headers_of : Head → List Header
headers_of head = map name_and_value (fields_of head)

abbrev pub IsHeadOf : Side → Head → Type 0
IsHeadOf Requests (asks h) = IsRequestHead h
IsHeadOf Requests (answers h) = ⊥
IsHeadOf Responses (asks h) = ⊥
IsHeadOf Responses (answers h) = IsResponseHead h

-- the bytes are that head and then the rest
abbrev pub ReadsHead : Side → List ℕ → Head → List ℕ → Type 0
ReadsHead side bytes head rest = IsHeadOf side head × (bytes ≡ print_head head ++ rest)

-- no head of at most 64 header lines begins the bytes
abbrev pub HasNoHead : Side → List ℕ → Type 0
HasNoHead side bytes = (head : Head) (rest : List ℕ) → ReadsHead side bytes head rest → ¬ (length (fields_of head) ≤ HEADER_LIMIT)

abbrev pub is_target_byte : ℕ → Bool
is_target_byte b = not (b == space || b == line_feed)

-- the bytes end inside a request's target, which goes from the blank after the method to the next blank or line feed
abbrev pub EndsInTarget : Side → List ℕ → Type 0
EndsInTarget Requests bytes =
    (blank : List LineEnd) × (method : List ℕ) × (target : List ℕ)
    × IsToken method × AllPass is_target_byte target × (bytes ≡ print_blank blank ++ method ++ space ∷ target)
EndsInTarget Responses bytes = ⊥

-- no head begins the bytes, whatever follows them
abbrev pub NeverHasHead : Side → List ℕ → Type 0
NeverHasHead side bytes = (more : List ℕ) (head : Head) (rest : List ℕ) → ¬ (ReadsHead side (bytes ++ more) head rest)

-- no head can come of the bytes, and they don't end inside a target
pub record IsNoHead (side : Side) (bytes : List ℕ) : Type 0 where
  pub never : NeverHasHead side bytes
  pub outside : ¬ (EndsInTarget side bytes)

-- a continuation of the bytes is a head, or they end inside a target
abbrev pub CanBecomeHead : Side → List ℕ → Type 0
CanBecomeHead side bytes = ((more : List ℕ) × (head : Head) × ReadsHead side (bytes ++ more) head []) ⊎ EndsInTarget side bytes

-- no head within the limit begins the bytes, and one may come of them
pub record IsBegun (side : Side) (bytes : List ℕ) : Type 0 where
  pub none : HasNoHead side bytes
  pub can : CanBecomeHead side bytes

-- the first n lines, each with its line feed
unfoldable pub lines_part : ℕ → List ℕ → List ℕ
lines_part zero bytes = []
lines_part (suc n) [] = []
lines_part (suc n) (b ∷ bytes) = b ∷ (if b == line_feed then lines_part n bytes else lines_part (suc n) bytes)

-- how many of n lines aren't ended
unfoldable pub lines_left : ℕ → List ℕ → ℕ
lines_left zero bytes = 0
lines_left (suc n) [] = suc n
lines_left (suc n) (b ∷ bytes) = if b == line_feed then lines_left n bytes else lines_left (suc n) bytes

-- the bytes up to the 66th line feed, empty lines before the first line not counted
unfoldable pub head_lines : List ℕ → List ℕ
head_lines [] = []
head_lines (b ∷ bytes) = if is_newline b then b ∷ head_lines bytes else lines_part LINE_LIMIT (b ∷ bytes)

-- how many line feeds are wanting to that
unfoldable pub head_lines_left : List ℕ → ℕ
head_lines_left [] = LINE_LIMIT
head_lines_left (b ∷ bytes) = if is_newline b then head_lines_left bytes else lines_left LINE_LIMIT (b ∷ bytes)

-- what of the bytes can be of a head: no more than 16,384 bytes and 66 lines
unfoldable pub head_part : List ℕ → List ℕ
head_part bytes = take HEAD_LIMIT (head_lines bytes)

abbrev pub HasAllLines : List ℕ → Type 0
HasAllLines bytes = head_lines_left bytes ≡ 0

-- at most 16,384 bytes and 64 header lines
pub record FitsHead (head : Head) : Type 0 where
  pub bytes : length (print_head head) ≤ HEAD_LIMIT
  pub lines : length (fields_of head) ≤ HEADER_LIMIT

-- a head within the limits, and then the rest
pub record IsFittingHead (side : Side) (bytes : List ℕ) (head : Head) (rest : List ℕ) : Type 0 where
  pub reads : ReadsHead side bytes head rest
  pub fits : FitsHead head

-- A request without a header on its body's length has no body.
abbrev pub form_on : Side → BodyForm → BodyForm
form_on Requests Missing = Sized 0
form_on Requests (Sized n) = Sized n
form_on Requests Chunked = Chunked
form_on Requests Wrong = Wrong
form_on Responses form = form

abbrev pub form_of : Side → Head → BodyForm
form_of side head = form_on side (body_form (headers_of head))

abbrev pub is_closing : ℕ → List Header → Bool
is_closing minor headers = (minor == 0) || has_value (codes "connection") is_close headers

-- what is told of a head of these parts
abbrev pub head_with : List ℕ → List ℕ → ℕ → ℕ → List Header → HttpHead
head_with method target status minor headers = record {
  method = method;
  target = target;
  status = status;
  protobuf = has_value (codes "content-type") is_protobuf headers;
  coded = has_value (codes "content-encoding") is_coded headers;
  close = is_closing minor headers;
}

-- what is told of a head; of a response the method and the target are empty, of a request the status is 0
abbrev pub head_value : Head → HttpHead
head_value (asks h) = head_with h.method h.target 0 h.minor (map name_and_value h.fields)
head_value (answers h) = head_with [] [] (status_code h) h.minor (map name_and_value h.fields)

-- less than a head
pub record IsHeadBegun (side : Side) (bytes : List ℕ) : Type 0 where
  pub begun : IsBegun side (head_part bytes)
  pub short : length (head_part bytes) < HEAD_LIMIT
  pub lines : ¬ (HasAllLines bytes)
