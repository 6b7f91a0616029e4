-- What the header lines of a head say of its message: its type and coding (RFC 9110, sections 8.3 and 8.4), whether the
-- connection closes behind it (RFC 9112, section 9.6), and the length of its body (RFC 9112, sections 6.1 to 6.3).
use Rattle.std.specs.Prelude.{ℕ, Bool, true, ◌&&◌, ◌||◌, not, ◌==◌, List, [], ◌∷◌, length, take, drop, map, codes, nat_le, if◌then◌else◌}
use Rattle.std.specs.List.{filter, list_any, list_all}
use Rattle.std.specs.Char.{to_ascii_lowercase, is_ascii_digit}
use Rattle.std.specs.Str.{bytes_eq}
use Rattle.std.specs.Str.Parse.{digits_value}
use Rattle.httparse.specs.Ascii.{semicolon}
use Rattle.httparse.specs.Grammar.{is_ows}
use Rattle.edge_heads.specs.declared.values.BodyForm.{BodyForm}
use Rattle.edge_heads.specs.declared.values.BodyForm.TheVariants.{Sized, Chunked, Missing, Wrong}

-- a header line: its name, and its value without the white space around it
abbrev pub Header : Type 0
Header = List ℕ × List ℕ

abbrev pub lower : List ℕ → List ℕ
lower bytes = map to_ascii_lowercase bytes

-- the header has this name, in any case of its letters
abbrev pub is_named : List ℕ → Header → Bool
is_named name header = bytes_eq (lower header.0) (lower name)

-- the values of the headers of this name, in their order
unfoldable pub values : List ℕ → List Header → List (List ℕ)
values name headers = map (λ h. h.1) (filter (is_named name) headers)

-- some header of this name has such a value
abbrev pub has_value : List ℕ → (List ℕ → Bool) → List Header → Bool
has_value name test headers = list_any test (values name headers)

-- the end of a value, or a semicolon or a blank
abbrev pub ends_type : List ℕ → Bool
ends_type [] = true
ends_type (b ∷ bytes) = b == semicolon || is_ows b

unfoldable pub is_protobuf : List ℕ → Bool
is_protobuf value = bytes_eq (lower (take 22 value)) (lower (codes "application/x-protobuf")) && ends_type (drop 22 value)

unfoldable pub is_coded : List ℕ → Bool
is_coded value = not (bytes_eq (lower value) (lower (codes "identity")))

unfoldable pub is_close : List ℕ → Bool
is_close value = bytes_eq (lower value) (lower (codes "close"))

-- 1 to 19 digits
unfoldable pub is_length : List ℕ → Bool
is_length value = nat_le 1 (length value) && nat_le (length value) 19 && list_all is_ascii_digit value

unfoldable pub is_chunked : List ℕ → Bool
is_chunked value = bytes_eq (lower value) (lower (codes "chunked"))

-- what the values of Content-Length and of Transfer-Encoding say of the body
abbrev pub form_by : List (List ℕ) → List (List ℕ) → BodyForm
form_by [] [] = Missing
form_by (n ∷ []) [] = if is_length n then Sized (digits_value 10 n) else Wrong
form_by [] (c ∷ []) = if is_chunked c then Chunked else Wrong
form_by _ _ = Wrong

unfoldable pub body_form : List Header → BodyForm
body_form headers = form_by (values (codes "content-length") headers) (values (codes "transfer-encoding") headers)
