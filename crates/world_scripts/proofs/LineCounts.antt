-- A script has at most as many lines as bytes.
use Rattle.std.proofs.Common.{◌≡◌, ◌∙◌, ℕ, ◌+◌, ◌≤◌, List, [], ◌∷◌, length, map, Bool, true, false, Some, cond, eqb, ap, sym, arith}
use Rattle.std.proofs.lemmas.List.{length-map}
use Rattle.std.specs.List.{onto_first}
use Rattle.world_scripts.specs.declared.lines.Line.{Line}
use Rattle.world_scripts.specs.Cuts.{lines_in}
use Rattle.world_scripts.specs.Lines.{line_in}
use Rattle.world_scripts.specs.Scripts.{Says}

onto_first_length : (b : ℕ) (lines : List (List ℕ)) → length (onto_first b lines) ≤ length lines + 1
onto_first_length b [] = omega arith
onto_first_length b (line ∷ lines) = omega arith

-- one byte more makes one line more at most
byte_length : (b : ℕ) (lines : List (List ℕ)) (is : Bool) → length (cond is ([] ∷ lines) (onto_first b lines)) ≤ length lines + 1
byte_length b lines true = omega arith
byte_length b lines false = onto_first_length b lines

lines_length : (bytes : List ℕ) → length (lines_in bytes) ≤ length bytes
lines_length [] = omega arith
lines_length (b ∷ bytes) = let one = byte_length b (lines_in bytes) (eqb b 10) in let rest = lines_length bytes in omega (arith, one, rest)

pub few_lines : (bytes : List ℕ) (lines : List Line) → Says bytes lines → length lines ≤ length bytes
few_lines bytes lines says =
    let same : length lines ≡ length (lines_in bytes) = sym (length-map lines Some) ∙ sym (ap length says) ∙ length-map (lines_in bytes) line_in in
    let most = lines_length bytes in
    omega (arith, same, most)
