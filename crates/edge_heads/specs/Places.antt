-- How far bytes are known to begin a head: where their last byte stands in it, told from one byte to the next.
use Rattle.std.specs.Prelude.{◌≡◌, ℕ, ◌==◌, Bool, true, false, List, [], ◌∷◌, ◌++◌, Option, Some, None, All, if◌then◌else◌, fold, length, not}
use Rattle.std.specs.List.{list_any}
use Rattle.httparse.specs.Pieces.{is_newline}
use Rattle.httparse.specs.Ascii.{line_feed, carriage_return, space, colon}
use Rattle.httparse.specs.Grammar.{is_token_byte, is_value_byte, AllPass, IsToken, LineEnd, print_blank, Field, IsField, print_section}
use Rattle.edge_heads.specs.declared.values.Side.{Side}
use Rattle.edge_heads.specs.declared.values.Side.TheVariants.{Requests, Responses}
use Rattle.edge_heads.specs.declared.places.Place.{Place}
use Rattle.edge_heads.specs.declared.places.Place.TheVariants as place
use Rattle.edge_heads.specs.Heads.{Head, print_head, IsHeadOf, is_target_byte, EndsInTarget, IsHeadBegun}

-- The bytes are a head with any field lines and their end behind them.
abbrev pub IsFront : Side → List ℕ → Type 0
IsFront side bytes = (fields : List Field) (last : LineEnd) → All IsField fields → (head : Head) × IsHeadOf side head × (print_head head ≡ bytes ++ print_section fields last)

-- The last of the bytes stands there.
abbrev pub IsAt : Side → Place → List ℕ → Type 0
IsAt side place.Blank bytes = (ends : List LineEnd) × (bytes ≡ print_blank ends)
IsAt side place.Return bytes = (ends : List LineEnd) × (bytes ≡ print_blank ends ++ carriage_return ∷ [])
IsAt side place.Method bytes = (side ≡ Requests) × (ends : List LineEnd) × (method : List ℕ) × IsToken method × (bytes ≡ print_blank ends ++ method)
IsAt side place.Target bytes = EndsInTarget side bytes
IsAt side place.Line bytes = IsFront side bytes
IsAt side place.Name bytes = (front : List ℕ) × (name : List ℕ) × IsFront side front × IsToken name × (bytes ≡ front ++ name)
IsAt side place.Value bytes =
    (front : List ℕ) × (name : List ℕ) × (raw : List ℕ) × IsFront side front × IsToken name × AllPass is_value_byte raw
    × (bytes ≡ front ++ (name ++ colon ∷ raw))
IsAt side place.Ending bytes =
    (front : List ℕ) × (name : List ℕ) × (raw : List ℕ) × IsFront side front × IsToken name × AllPass is_value_byte raw
    × (bytes ≡ front ++ (name ++ colon ∷ (raw ++ carriage_return ∷ [])))

-- What is known of the bytes, if anything is: they begin a head, and their last byte stands there.
abbrev pub IsKnown : Side → Option Place → List ℕ → Type 0
IsKnown side None bytes = Unit {0}
IsKnown side (Some p) bytes = IsHeadBegun side bytes × IsAt side p bytes

abbrev pub asks_for_method : Side → ℕ → Bool
asks_for_method Requests byte = is_token_byte byte
asks_for_method Responses byte = false

-- where one more byte stands, if that is clear without reading the head again
abbrev pub place_after : Side → Place → ℕ → Option Place
place_after side place.Blank byte =
    if byte == line_feed then Some place.Blank else (if byte == carriage_return then Some place.Return else (if asks_for_method side byte then Some place.Method else None))
place_after side place.Return byte = if byte == line_feed then Some place.Blank else None
place_after side place.Method byte = if is_token_byte byte then Some place.Method else (if byte == space then Some place.Target else None)
place_after side place.Target byte = if is_target_byte byte then Some place.Target else None
place_after side place.Line byte = if is_token_byte byte then Some place.Name else None
place_after side place.Name byte = if is_token_byte byte then Some place.Name else (if byte == colon then Some place.Value else None)
place_after side place.Value byte = if is_value_byte byte then Some place.Value else (if byte == carriage_return then Some place.Ending else None)
place_after side place.Ending byte = None

abbrev pub place_on : Side → Option Place → ℕ → Option Place
place_on side None byte = None
place_on side (Some p) byte = place_after side p byte

-- where the last of some more bytes stands
abbrev pub place_behind : Side → Option Place → List ℕ → Option Place
place_behind side known bytes = fold (place_on side) known bytes

abbrev pub is_no_newline : ℕ → Bool
is_no_newline byte = not (is_newline byte)

-- The first so many bytes are whole lines, some line that isn't empty among them, and behind them no line ends.
pub record IsLineStart (bytes : List ℕ) (at : ℕ) : Type 0 where
  pub lines : List ℕ
  pub part : List ℕ
  pub bytes_are : bytes ≡ (lines ++ line_feed ∷ []) ++ part
  pub at_is : at ≡ length (lines ++ line_feed ∷ [])
  pub text : list_any is_no_newline lines ≡ true

-- what contracts see of bytes that came and weren't used yet: which messages they are of, and the bytes
pub record Unused : Type 0 where
  pub side : Side
  pub items : List ℕ
