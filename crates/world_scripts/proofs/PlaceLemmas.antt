-- The place of the first bad line.
use Rattle.std.proofs.Common.{◌≡◌, ◌∙◌, ◌⊎◌, ℕ, ◌+◌, Bool, true, false, cond, List, [], ◌∷◌, ◌++◌, length, map, eqb, Option, None, Some, refl, sym, ap, inl, inr, arith, length-append, append_assoc}
use Rattle.std.proofs.lemmas.List.Elements.{All-cons}
use Rattle.std.proofs.lemmas.Bool.Decides.{nat_tests}
use Rattle.std.specs.List.{onto_first}
use Rattle.world_scripts.specs.declared.lines.Line.{Line}
use Rattle.world_scripts.specs.Cuts.{IsFree, lines_in}
use Rattle.world_scripts.specs.Lines.{line_in}
use Rattle.world_scripts.specs.Scripts.{first_bad_line, BadLineBegins}
use Rattle.world_scripts.proofs.CutLemmas.{lines_in-cut}
use Rattle.world_scripts.proofs.ScriptLaws.{some_behind}

-- the first line of the bytes ends at a line feed, with the other lines behind it
record IsEnded (bytes line : List ℕ) (lines : List (List ℕ)) : Type 0 where
  rest : List ℕ
  whole : bytes ≡ line ++ 10 ∷ rest
  free : IsFree 10 line
  others : lines_in rest ≡ lines

IsFirst : List ℕ → List ℕ → List (List ℕ) → Type 0
IsFirst bytes line lines = IsEnded bytes line lines ⊎ (lines ≡ [])

begun : (b : ℕ) (bytes line : List ℕ) (lines : List (List ℕ)) → eqb b 10 ≡ false → IsFirst bytes line lines → IsFirst (b ∷ bytes) (b ∷ line) lines
unfolding IsFirst
begun b bytes line lines other (inl ended) =
    inl (record { rest = ended.rest; whole = ap (λ (xs : List ℕ). b ∷ xs) ended.whole; free = All-cons (λ x. eqb x 10 ≡ false) b line other ended.free; others = ended.others })
begun b bytes line lines other (inr last) = inr last

onto : (b : ℕ) (bytes line : List ℕ) (lines parts : List (List ℕ)) → eqb b 10 ≡ false → onto_first b parts ≡ line ∷ lines
    → ((l : List ℕ) (ls : List (List ℕ)) → parts ≡ l ∷ ls → IsFirst bytes l ls) → IsFirst (b ∷ bytes) line lines
unfolding IsFirst
onto b bytes line lines [] other e more = inr cc
onto b bytes line lines (l ∷ ls) other e more =
    let same : IsFirst (b ∷ bytes) (b ∷ l) ls = begun b bytes l ls other (more l ls refl) in
    let front : line ≡ b ∷ l = cc in
    let rest : lines ≡ ls = cc in
    rw (front, rest) same

by_mark : (b : ℕ) (bytes line : List ℕ) (lines : List (List ℕ)) (ended : Bool) → eqb b 10 ≡ ended
    → cond ended ([] ∷ lines_in bytes) (onto_first b (lines_in bytes)) ≡ line ∷ lines
    → ((l : List ℕ) (ls : List (List ℕ)) → lines_in bytes ≡ l ∷ ls → IsFirst bytes l ls) → IsFirst (b ∷ bytes) line lines
unfolding IsFirst
by_mark b bytes line lines false other e more = onto b bytes line lines (lines_in bytes) other e more
by_mark b bytes line lines true is e more =
    let feed : b ≡ 10 = grind (arith, nat_tests) in
    let none : line ≡ [] = cc in
    let others : lines_in bytes ≡ lines = cc in
    inl (record { rest = bytes; whole = rw (feed, none) refl; free = rw none (λ k d within. absurd (omega arith)); others = others })

first_line : (bytes line : List ℕ) (lines : List (List ℕ)) → lines_in bytes ≡ line ∷ lines → IsFirst bytes line lines
first_line [] line lines e = absurd (cc)
first_line (b ∷ bytes) line lines e = by_mark b bytes line lines (eqb b 10) refl e (first_line bytes)

-- one good line more in front
behind_line : (bytes l : List ℕ) (ls : List (List ℕ)) (line : Line) (at : ℕ) (ended : IsEnded bytes l ls) (k : ℕ)
    → line_in l ≡ Some line → length l + 1 + k ≡ at → BadLineBegins ended.rest k → BadLineBegins bytes at
behind_line bytes l ls line at ended k is place later = record {
  front = l ++ 10 ∷ later.front;
  rest = later.rest;
  lines = line ∷ later.lines;
  line = later.line;
  behind = later.behind;
  whole = ended.whole ∙ ap (λ (xs : List ℕ). l ++ 10 ∷ xs) later.whole ∙ sym (append_assoc l (10 ∷ later.front) later.rest);
  place = let sum = length-append l (10 ∷ later.front) in let inner = later.place in omega arith;
  parted =
      ap lines_in ended.whole ∙ lines_in-cut l ended.rest ended.free ∙ ap (λ (ps : List (List ℕ)). l ∷ ps) later.parted
      ∙ sym (ap (λ (ps : List (List ℕ)). ps ++ lines_in later.rest) (lines_in-cut l later.front ended.free));
  before = ap (map line_in) (lines_in-cut l later.front ended.free) ∙ (let rest = later.before in cc (is, later.before));
  begins = later.begins;
  bad = later.bad;
}

by_end : (bytes l : List ℕ) (ls : List (List ℕ)) (line : Line) (at k : ℕ) → line_in l ≡ Some line → first_bad_line ls ≡ Some k → length l + 1 + k ≡ at
    → ((rest : List ℕ) (j : ℕ) → lines_in rest ≡ ls → first_bad_line ls ≡ Some j → BadLineBegins rest j) → IsFirst bytes l ls → BadLineBegins bytes at
unfolding IsFirst
by_end bytes l ls line at k is bad place more (inl ended) = behind_line bytes l ls line at ended k is place (more ended.rest k ended.others bad)
by_end bytes l ls line at k is bad place more (inr last) =
    let none : first_bad_line [] ≡ Some k = rw last at bad in
    absurd (cc)

by_line : (bytes l : List ℕ) (ls : List (List ℕ)) (read : Option Line) (at : ℕ) → line_in l ≡ read → lines_in bytes ≡ l ∷ ls → first_bad_line (l ∷ ls) ≡ Some at
    → ((rest : List ℕ) (j : ℕ) → lines_in rest ≡ ls → first_bad_line ls ≡ Some j → BadLineBegins rest j) → BadLineBegins bytes at
by_line bytes l ls None at is e bad more =
    let here : Some 0 ≡ Some at = rw is at bad in
    record { front = []; rest = bytes; lines = []; line = l; behind = ls; whole = refl; place = cc; parted = refl; before = refl; begins = e; bad = is }
by_line bytes l ls (Some line) at is e bad more =
    let later = some_behind (length l + 1) at (first_bad_line ls) (rw is at bad) in
    by_end bytes l ls line at later.0 is later.1 later.2 more (first_line bytes l ls e)

pub bad_line_begins : (ls : List (List ℕ)) (bytes : List ℕ) (at : ℕ) → lines_in bytes ≡ ls → first_bad_line ls ≡ Some at → BadLineBegins bytes at
bad_line_begins [] bytes at e bad = absurd (cc)
bad_line_begins (l ∷ ls) bytes at e bad = by_line bytes l ls (line_in l) at refl e bad (bad_line_begins ls)
