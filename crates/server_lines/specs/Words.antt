-- The words of an operator's line.
use Rattle.std.specs.Prelude.{ℕ, pos, ◌^◌, List, [], ◌∷◌, ◌==◌, ◌&&◌, ◌||◌, nat_lt, Bool, not, length, Option, None, Some, if◌then◌else◌, codes}
use Rattle.std.specs.Bool.{then_some}
use Rattle.std.specs.Char.{is_ascii_alphanumeric, is_ascii_digit}
use Rattle.std.specs.Int.{is_in_range}
use Rattle.std.specs.List.{slice_split, list_all, position_or_len, before_first, after_first}
use Rattle.std.specs.Option.{option_map, option_and_then}
use Rattle.std.specs.Result.{result_ok}
use Rattle.std.specs.Str.{bytes_eq, is_utf8}
use Rattle.std.specs.Str.Parse.{digits_value}
use Rattle.hex.specs.Hex.{decode_of}
use Rattle.plain_values.specs.Pairs.{put_all}
use Rattle.plain_values.specs.declared.files.AgentConfigFile.{AgentConfigFile}
use Rattle.plain_values.specs.declared.files.AgentConfigMap.{AgentConfigMap}
use Rattle.plain_values.specs.declared.headers.Header.{Header}
use Rattle.plain_values.specs.declared.headers.Headers.{Headers}
use Rattle.plain_values.specs.declared.maps.Pair.{Pair}
use Rattle.message_values.specs.declared.connection.OpAMPConnectionSettings.{OpAMPConnectionSettings}
use Rattle.message_values.specs.declared.packages.PackageAvailable.{PackageAvailable}
use Rattle.server_waves.specs.declared.finders.Finder.{Finder}

-- the words of a line, between which single blanks stand
abbrev pub words_in : List ℕ → List (List ℕ)
words_in line = slice_split (λ b. b == 32) line

-- a word has one byte or more
abbrev pub is_word : List ℕ → Bool
is_word word = not (length word == 0)

-- NAME of a file, TYPE and URL: the text itself, or `-` for the empty one
unfoldable pub text_in : List ℕ → List ℕ
text_in word = if bytes_eq word (codes "-") then [] else word

-- HEX: two hexadecimal digits for each byte, in either case, or `-` for no bytes
unfoldable pub bytes_in : List ℕ → Option (List ℕ)
bytes_in word = if bytes_eq word (codes "-") then Some [] else result_ok (decode_of word)

-- 1 to 20 decimal digits
abbrev pub is_numeral : List ℕ → Bool
is_numeral word = is_in_range 1 20 (length word) && list_all is_ascii_digit word

-- SECONDS: the number that the digits write, below 2^64
unfoldable pub number_in : List ℕ → Option ℕ
number_in word = then_some (is_numeral word && nat_lt (digits_value 10 word) (2 ^ 64)) (digits_value 10 word)

-- what the words spell, where there are any
abbrev pub filled : {T : Type 0} → (List (List ℕ) → Option T) → List (List ℕ) → Option T
filled read [] = None
filled read (word ∷ words) = read (word ∷ words)

-- ID of a rollout: 1 to 64 letters, digits, hyphens and underscores
abbrev pub is_id_byte : ℕ → Bool
is_id_byte byte = is_ascii_alphanumeric byte || (byte == 45 || byte == 95)

abbrev pub is_id : List ℕ → Bool
is_id word = is_in_range 1 64 (length word) && list_all is_id_byte word

unfoldable pub id_in : List ℕ → Option (List ℕ)
id_in word = then_some (is_id word) word

-- a file under its name
abbrev pub named_file : List ℕ → List ℕ → List ℕ → Pair AgentConfigFile
named_file name kind body = record { key = name; value = record { body = body; content_type = kind } }

-- NAME TYPE HEX, any number of times
abbrev pub files_in : List (List ℕ) → Option (List (Pair AgentConfigFile))
files_in [] = Some []
files_in (name ∷ kind ∷ hex ∷ words) =
    option_and_then (λ body. option_map (λ files. named_file (text_in name) (text_in kind) body ∷ files) (files_in words)) (bytes_in hex)
files_in words = None

-- NAME TYPE HEX once or more: of a name that comes twice the last counts
abbrev pub files_of : List (List ℕ) → Option AgentConfigMap
files_of words = option_map (λ entries. record { config_map = put_all entries }) (filled files_in words)

-- what stands before the first such byte of a word, and what stands behind it
abbrev pub parts_at : ℕ → List ℕ → Option (List ℕ × List ℕ)
parts_at mark word =
    if nat_lt (position_or_len (λ b. b == mark) word) (length word)
    then Some (before_first (λ b. b == mark) word, after_first (λ b. b == mark) word)
    else None

-- WIDTH/ALLOWED: two numbers, of which ALLOWED is below WIDTH
abbrev pub below_width : ℕ → ℕ → Option (ℕ × ℕ)
below_width width allowed = then_some (nat_lt allowed width) (width, allowed)

unfoldable pub terms_in : List ℕ → Option (ℕ × ℕ)
terms_in word =
    option_and_then (λ p. option_and_then (λ width. option_and_then (λ allowed. below_width width allowed) (number_in p.1)) (number_in p.0)) (parts_at 47 word)

-- KEY=VALUE: what stands before the first `=`, which isn't empty, and what stands behind it
unfoldable pub finder_in : List ℕ → Option Finder
finder_in word = option_and_then (λ p. if length p.0 == 0 then None else Some (record { key = p.0; value = p.1 })) (parts_at 61 word)

-- a top-level package with one file, which lies at a URL and has bytes of this hash ("PackageAvailable Message")
abbrev pub one_package : List ℕ → List ℕ → List ℕ → PackageAvailable
one_package version url hash = record {
  kind = pos 0;
  version = version;
  file = Some (record { download_url = url; content_hash = hash; signature = [] });
  hash = [];
}

-- NAME VERSION URL HEX, any number of times
abbrev pub packages_in : List (List ℕ) → Option (List (Pair PackageAvailable))
packages_in [] = Some []
packages_in (name ∷ version ∷ url ∷ hex ∷ words) =
    option_and_then (λ hash. option_map (λ packages. record { key = name; value = one_package version url hash } ∷ packages) (packages_in words)) (bytes_in hex)
packages_in words = None

-- a text of these bytes, where they are UTF-8
abbrev pub text_from : List ℕ → Option (List ℕ)
text_from bytes = then_some (is_utf8 bytes) bytes

-- at a colon
abbrev pub parts_in : List ℕ → Option (List ℕ × List ℕ)
parts_in word = parts_at 58 word

-- the text whose bytes these hexadecimal digits are
abbrev pub value_in : List ℕ → Option (List ℕ)
value_in hex = option_and_then text_from (bytes_in hex)

-- NAME:HEX, a header whose value has these bytes: NAME isn't empty, and the value is UTF-8 ("Headers Message")
unfoldable pub header_in : List ℕ → Option Header
header_in word =
    option_and_then (λ p. if length p.0 == 0 then None else option_map (λ value. record { key = p.0; value = value }) (value_in p.1)) (parts_in word)

-- NAME:HEX, any number of times
abbrev pub headers_in : List (List ℕ) → Option (List Header)
headers_in [] = Some []
headers_in (word ∷ words) = option_and_then (λ header. option_map (λ headers. header ∷ headers) (headers_in words)) (header_in word)

-- headers are there where there is one
abbrev pub headers_of : List Header → Option Headers
headers_of [] = None
headers_of (header ∷ headers) = Some (record { headers = header ∷ headers })

-- settings of an endpoint, an interval and headers
abbrev pub settings_with : List ℕ → ℕ → List Header → OpAMPConnectionSettings
settings_with url seconds headers = record {
  destination_endpoint = url;
  headers = headers_of headers;
  certificate = None;
  heartbeat_interval_seconds = seconds;
}

-- an endpoint alone
abbrev pub endpoint_alone : List ℕ → OpAMPConnectionSettings
endpoint_alone url = settings_with url 0 []
