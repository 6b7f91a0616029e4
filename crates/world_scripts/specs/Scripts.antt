-- What a script says, and where it says nothing.
use Rattle.std.specs.Prelude.{◌≡◌, ℕ, ◌+◌, List, [], ◌∷◌, ◌++◌, map, Option, None, Some, length, is_some, if◌then◌else◌}
use Rattle.std.specs.Option.{option_map}
use Rattle.world_scripts.specs.declared.lines.Line.{Line}
use Rattle.world_scripts.specs.declared.reading.ScriptFail.{ScriptFail}
use Rattle.world_scripts.specs.declared.reading.ScriptFail.TheVariants.{BadLine}
use Rattle.world_scripts.specs.Cuts.{lines_in}
use Rattle.world_scripts.specs.Lines.{line_in}

-- the bytes say these lines, and nothing else
abbrev pub Says : List ℕ → List Line → Type 0
Says bytes lines = map line_in (lines_in bytes) ≡ map Some lines

-- the place of the first of these lines that is none, where each has one byte behind it
abbrev pub first_bad_line : List (List ℕ) → Option ℕ
first_bad_line [] = None
first_bad_line (line ∷ lines) = if is_some (line_in line) then option_map (λ at. length line + 1 + at) (first_bad_line lines) else Some 0

-- this holds of the place of the bad line, where that is the failure
abbrev pub IfBadLine : (ℕ → Type 0) → ScriptFail → Type 0
IfBadLine P (BadLine at) = P at
IfBadLine P fail = Unit {0}

-- at this place of the bytes a line begins that is none, and all that stands before it are lines
pub record BadLineBegins (bytes : List ℕ) (at : ℕ) : Type 0 where
  pub front : List ℕ
  pub rest : List ℕ
  pub lines : List Line
  pub line : List ℕ
  pub behind : List (List ℕ)
  pub whole : bytes ≡ front ++ rest
  pub place : length front ≡ at
  pub parted : lines_in bytes ≡ lines_in front ++ lines_in rest
  pub before : Says front lines
  pub begins : lines_in rest ≡ line ∷ behind
  pub bad : line_in line ≡ None
