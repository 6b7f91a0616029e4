-- The words of a line: its path, which joins wire names, and its value.
use Rattle.std.specs.Prelude.{ℕ, ◌/◌, ◌%◌, false, List, [], ◌∷◌, ◌++◌, nat_eq, nat_lt, ◌||◌, length, cond, codes}
use Rattle.std.specs.Fmt.{decimal, digit_glyph}
use Rattle.hex.specs.Hex.{encode_lower}

-- one line: the path, ` = `, the value, a line feed
unfoldable pub line : List ℕ → List ℕ → List ℕ
line path value = path ++ (codes " = " ++ (value ++ 10 ∷ []))

-- the text with the line `PATH = {}` where it has still as many bytes as before a message was shown
unfoldable pub closed : List ℕ → List ℕ → ℕ → List ℕ
closed text path before = cond (nat_eq (length text) before) (text ++ line path (codes "{}")) text

-- the path of the field of this name below a path; below the empty path it is the name
unfoldable pub under : List ℕ → List ℕ → List ℕ
under [] name = name
under (c ∷ path) name = (c ∷ path) ++ (codes "." ++ name)

-- the path of an item of a repeated field, from 0
unfoldable pub item_path : List ℕ → ℕ → List ℕ
item_path path i = path ++ (codes "[" ++ (decimal i ++ codes "]"))

-- A byte within quotation marks: `\"`, `\\` and `\n` stand for the mark, the backslash and the line feed, `\x` and two lower-case hexadecimal digits
-- for any other byte below 0x20 and for 0x7f, and every other byte for itself.
abbrev pub quoted_byte : ℕ → List ℕ
quoted_byte b =
    cond (nat_eq b 34) (92 ∷ 34 ∷ [])
    (cond (nat_eq b 92) (92 ∷ 92 ∷ [])
    (cond (nat_eq b 10) (92 ∷ 110 ∷ [])
    (cond (nat_lt b 32 || nat_eq b 127) (92 ∷ 120 ∷ digit_glyph false (b / 16) ∷ digit_glyph false (b % 16) ∷ [])
    (b ∷ []))))

abbrev pub quoted_bytes : List ℕ → List ℕ
quoted_bytes [] = []
quoted_bytes (b ∷ bytes) = quoted_byte b ++ quoted_bytes bytes

-- a text in quotation marks
unfoldable pub quoted : List ℕ → List ℕ
quoted text = 34 ∷ (quoted_bytes text ++ 34 ∷ [])

-- the path of a map's value
unfoldable pub key_path : List ℕ → List ℕ → List ℕ
key_path path key = path ++ (codes "[" ++ (quoted key ++ codes "]"))

-- bytes in lower-case hexadecimal
unfoldable pub hexadecimal : List ℕ → List ℕ
hexadecimal bytes = codes "hex " ++ encode_lower bytes
