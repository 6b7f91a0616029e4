-- The words of the grammar.
use Rattle.std.specs.Prelude.{ℕ, ◌-◌, Bool, not, List, [], ◌∷◌, length, slice_index, ◌==◌, ◌&&◌, ◌||◌, Option, None, Some, if◌then◌else◌, is_some, bit_and, nat_eq, drop, codes}
use Rattle.std.specs.Bool.{then_some}
use Rattle.std.specs.Char.{is_ascii_digit, is_ascii_graphic}
use Rattle.std.specs.Int.{is_in_range}
use Rattle.std.specs.List.{list_all, starts_with}
use Rattle.std.specs.Option.{option_and_then}
use Rattle.std.specs.Str.{bytes_eq}
use Rattle.std.specs.Str.Parse.{digits_value}
use Rattle.edge_devices.specs.declared.disk_calls.Mode.{Mode}
use Rattle.edge_devices.specs.declared.disk_calls.Mode.TheVariants.{Old, New, Torn}

-- KEY, NAME and TEXT: one byte or more, each visible in ASCII
abbrev pub is_word : List ℕ → Bool
is_word word = not (length word == 0) && list_all is_ascii_graphic word

-- a digit from `0` to `9` or from `a` to `f`
abbrev pub is_hex_digit : ℕ → Bool
is_hex_digit b = is_ascii_digit b || is_in_range 97 102 b

-- 1 to 16 lower-case hexadecimal digits
abbrev pub is_hex_numeral : List ℕ → Bool
is_hex_numeral word = is_in_range 1 16 (length word) && list_all is_hex_digit word

-- the number that they write
unfoldable pub hex_number : List ℕ → Option ℕ
hex_number word = then_some (is_hex_numeral word) (digits_value 16 word)

-- HEX: such a number without a bit outside 0x7d1f
unfoldable pub capabilities_in : List ℕ → Option ℕ
capabilities_in word = option_and_then (λ n. then_some (bit_and n 0x7d1f == n) n) (hex_number word)

-- 1 to 6 decimal digits, of which the first is not 0
abbrev pub is_decimal_numeral : List ℕ → Bool
is_decimal_numeral word = is_in_range 1 6 (length word) && not (slice_index word 0 == 48) && list_all is_ascii_digit word

-- K: the number that they write
unfoldable pub decimal_number : List ℕ → Option ℕ
decimal_number word = then_some (is_decimal_numeral word) (digits_value 10 word)

-- MODE: what a crash leaves of bytes that were not synced
unfoldable pub mode_named : List ℕ → Option Mode
mode_named word =
    if bytes_eq word (codes "old") then Some Old
    else if bytes_eq word (codes "new") then Some New
    else if bytes_eq word (codes "torn") then Some Torn
    else None

-- S: the number of one decimal digit
abbrev pub digit_number : List ℕ → Option ℕ
digit_number (b ∷ []) = then_some (is_ascii_digit b) (b - 48)
digit_number word = None

-- this in front and S behind it
abbrev pub is_before_digit : List ℕ → List ℕ → Bool
is_before_digit front word = starts_with nat_eq word front && is_some (digit_number (drop (length front) word))

-- URL: `http://sS` or `wss://sS`
abbrev pub is_url : List ℕ → Bool
is_url word = is_before_digit (codes "http://s") word || is_before_digit (codes "wss://s") word
