-- Bytes say lines, or have a first bad one.
use Rattle.std.proofs.Common.{◌≡◌, ◌⊎◌, ℕ, ◌+◌, List, [], ◌∷◌, length, map, Option, None, Some, refl, inl, inr}
use Rattle.std.specs.Option.{option_map}
use Rattle.world_scripts.specs.declared.lines.Line.{Line}
use Rattle.world_scripts.specs.Lines.{line_in}
use Rattle.world_scripts.specs.Scripts.{first_bad_line}

IsReadOrBad : List (List ℕ) → Type 0
IsReadOrBad ls = ((lines : List Line) × (map line_in ls ≡ map Some lines)) ⊎ ((at : ℕ) × (first_bad_line ls ≡ Some at))

-- bad lines behind a good one are bad ones
behind : (l : List ℕ) (ls : List (List ℕ)) (line : Line) → line_in l ≡ Some line → IsReadOrBad ls → IsReadOrBad (l ∷ ls)
unfolding IsReadOrBad
behind l ls line is (inl read) = inl (line ∷ read.0, cc (is, read.1))
behind l ls line is (inr bad) = inr (length l + 1 + bad.0, rw (is, bad.1) refl)

with_first : (l : List ℕ) (ls : List (List ℕ)) (read : Option Line) → line_in l ≡ read → IsReadOrBad ls → IsReadOrBad (l ∷ ls)
unfolding IsReadOrBad
with_first l ls None is rest = inr (0, rw is refl)
with_first l ls (Some line) is rest = behind l ls line is rest

read_or_bad_lines : (ls : List (List ℕ)) → IsReadOrBad ls
unfolding IsReadOrBad
read_or_bad_lines [] = inl ([], refl)
read_or_bad_lines (l ∷ ls) = with_first l ls (line_in l) refl (read_or_bad_lines ls)

pub either : (ls : List (List ℕ)) → ((lines : List Line) × (map line_in ls ≡ map Some lines)) ⊎ ((at : ℕ) × (first_bad_line ls ≡ Some at))
unfolding IsReadOrBad
either ls = read_or_bad_lines ls

pub one : (lines others : List Line) → map Some lines ≡ map Some others → lines ≡ others
one [] [] e = refl
one [] (y ∷ ys) e = cc
one (x ∷ xs) [] e = cc
one (x ∷ xs) (y ∷ ys) e =
    let rest : map Some xs ≡ map Some ys = cc in
    let same = one xs ys rest in
    cc

pub some_behind : (n at : ℕ) (place : Option ℕ) → option_map (λ k. n + k) place ≡ Some at → (k : ℕ) × (place ≡ Some k) × (n + k ≡ at)
some_behind n at None e = absurd (cc)
some_behind n at (Some k) e = (k, refl, cc)

pub apart : (ls : List (List ℕ)) (lines : List Line) (at : ℕ) → map line_in ls ≡ map Some lines → first_bad_line ls ≡ Some at → ⊥
apart [] lines at read bad = cc
apart (l ∷ ls) [] at read bad = cc
apart (l ∷ ls) (line ∷ lines) at read bad =
    let is : line_in l ≡ Some line = cc in
    let rest : map line_in ls ≡ map Some lines = cc in
    let later = some_behind (length l + 1) at (first_bad_line ls) (rw is at bad) in
    apart ls lines later.0 rest later.1
