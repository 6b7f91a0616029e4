-- Of the head at the front of bytes one thing is told.
use Rattle.std.proofs.Common.{◌≡◌, ℕ, suc, ◌+◌, ◌-◌, ◌≤◌, List, [], ◌∷◌, ◌++◌, length, take, sym, ap, ◌∙◌, arith, append_assoc, append-nil, inl, inr, flat_map}
use Rattle.std.proofs.Math.Seq.{take-append-add}
use Rattle.httparse.specs.Grammar.{LineEnd, crlf, lf, print_end, print_blank, print_field}
use Rattle.httparse.proofs.GrammarLemmas.{request_unique, response_unique}
use Rattle.edge_heads.specs.declared.TheConstants.{HEAD_LIMIT, HEADER_LIMIT}
use Rattle.edge_heads.specs.declared.values.Side.{Side}
use Rattle.edge_heads.specs.declared.values.Side.TheVariants.{Requests, Responses}
use Rattle.edge_heads.specs.Heads.{Head, asks, answers, print_head, fields_of, IsHeadOf, ReadsHead, IsNoHead, IsBegun, lines_part, head_lines, head_part, IsFittingHead}
use Rattle.edge_heads.proofs.Lines.{lines-other, lines-feed}
use Rattle.edge_heads.proofs.Shapes.{head-shape, same-fields, last_of, lines-of-head}

-- an end of a line, and then the lines that are left
end-passes : (end : LineEnd) (n : ℕ) (b : List ℕ) → lines_part (suc n) (print_end end ++ b) ≡ print_end end ++ lines_part n b
end-passes crlf n b = lines-other n 13 (10 ∷ b) (λ e. absurd (cc)) ∙ ap (λ (t : List ℕ). 13 ∷ t) (lines-feed n b)
end-passes lf n b = lines-feed n b

-- A head of at most 64 header lines lies within its lines.
pub head-in-lines : (side : Side) (h : Head) (rest : List ℕ) → IsHeadOf side h → length (fields_of h) ≤ HEADER_LIMIT
    → (more : List ℕ) × (head_lines (print_head h ++ rest) ≡ print_head h ++ more)
head-in-lines side h rest is few =
    let s = head-shape side h is in
    let fs = fields_of h in
    let n = 64 - length fs in
    let count : length fs + suc n ≡ 65 = omega arith in
    let after = print_end (last_of h) ++ rest in
    let printed : print_head h ≡ print_blank s.blank ++ (s.line ++ (print_end s.end ++ (flat_map print_field fs ++ print_end (last_of h)))) =
    ap print_head (sym (same-fields h)) ∙ s.prints fs (last_of h) in (
      lines_part n rest,
      ap (λ (t : List ℕ). head_lines (t ++ rest)) printed
          ∙ ap head_lines (spread (print_blank s.blank) s.line (print_end s.end) (flat_map print_field fs) (print_end (last_of h)) rest)
          ∙ lines-of-head side h s fs (suc n) after s.each count
          ∙ ap (λ (t : List ℕ). print_blank s.blank ++ (s.line ++ (print_end s.end ++ (flat_map print_field fs ++ t)))) (end-passes (last_of h) n rest)
          ∙ sym (spread (print_blank s.blank) s.line (print_end s.end) (flat_map print_field fs) (print_end (last_of h)) (lines_part n rest))
          ∙ ap (λ (t : List ℕ). t ++ lines_part n rest) (sym printed),
    )
  where
    spread : (a b c d e r : List ℕ) → (a ++ (b ++ (c ++ (d ++ e)))) ++ r ≡ a ++ (b ++ (c ++ (d ++ (e ++ r))))
    spread a b c d e r = simp append_assoc

-- A head within the limits lies in the part that can be of a head.
pub head-in-part : (side : Side) (bytes : List ℕ) (h : Head) (rest : List ℕ) → IsFittingHead side bytes h rest
    → (more : List ℕ) × ReadsHead side (head_part bytes) h more
unfolding head_part
head-in-part side bytes h rest x =
    let lines = head-in-lines side h rest x.reads.0 x.fits.lines in
    let text = print_head h in
    let fits : length text ≤ HEAD_LIMIT = x.fits.bytes in
    let sum : HEAD_LIMIT ≡ length text + (HEAD_LIMIT - length text) = omega arith in (
      take (HEAD_LIMIT - length text) lines.0,
      (
        x.reads.0,
        ap (λ (t : List ℕ). take HEAD_LIMIT (head_lines t)) x.reads.1 ∙ ap (λ (t : List ℕ). take HEAD_LIMIT t) lines.1
            ∙ ap (λ (n : ℕ). take n (text ++ lines.0)) sum ∙ take-append-add text lines.0 (HEAD_LIMIT - length text),
      ),
    )

-- So where a head is begun, none within the limits is there.
pub begun-or-there : (side : Side) (bytes : List ℕ) (h : Head) (rest : List ℕ) → IsFittingHead side bytes h rest → IsBegun side (head_part bytes) → ⊥
begun-or-there side bytes h rest x b =
    let y = head-in-part side bytes h rest x in b.none h y.0 y.1 x.fits.lines

-- Where no head can come, none within the limits is there.
pub never-or-there : (side : Side) (bytes : List ℕ) (h : Head) (rest : List ℕ) → IsFittingHead side bytes h rest → IsNoHead side (head_part bytes) → ⊥
never-or-there side bytes h rest x never =
    let y = head-in-part side bytes h rest x in
    never.never [] h y.0 (y.1.0, append-nil (head_part bytes) ∙ y.1.1)

-- Where a head is begun, one can come.
pub begun-or-never : (side : Side) (bytes : List ℕ) → IsBegun side bytes → IsNoHead side bytes → ⊥
begun-or-never side bytes b never = elim b.can [
  | inl whole ↦ never.never whole.0 whole.1 [] whole.2
  | inr inside ↦ never.outside inside
]

-- One head stands at the front.
pub one-head : (side : Side) (bytes : List ℕ) (a b : Head) (r q : List ℕ) → ReadsHead side bytes a r → ReadsHead side bytes b q → (a ≡ b) × (r ≡ q)
one-head Requests bytes (asks a) (asks b) r q x y = let e = request_unique bytes a b r q x y in (ap asks e.0, e.1)
one-head Requests bytes (asks a) (answers b) r q x y = absurd y.0
one-head Requests bytes (answers a) b r q x y = absurd x.0
one-head Responses bytes (answers a) (answers b) r q x y = let e = response_unique bytes a b r q x y in (ap answers e.0, e.1)
one-head Responses bytes (answers a) (asks b) r q x y = absurd y.0
one-head Responses bytes (asks a) b r q x y = absurd x.0
