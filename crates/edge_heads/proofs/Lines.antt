-- How lines are counted.
use Rattle.std.proofs.Common.{◌≡◌, ℕ, zero, suc, ◌+◌, ◌-◌, ◌<◌, ◌≤◌, ◌≢◌, Bool, true, false, ◌||◌, if◌then◌else◌, List, [], ◌∷◌, ◌++◌, length, get_or, take, drop, refl, sym, ap, ◌∙◌, subst, arith, append_assoc, ne_eqb, add-one, append-nil}
use Rattle.std.proofs.Math.Seq.{drop-cons}
use Rattle.std.proofs.lemmas.List.{take_more, take_all, drop_all, length-take-le, take-append-le}
use Rattle.httparse.specs.Pieces.{is_newline}
use Rattle.edge_heads.specs.declared.TheConstants.{LINE_LIMIT, HEAD_LIMIT}
use Rattle.edge_heads.specs.Heads.{lines_part, lines_left, head_lines, head_lines_left, head_part}

-- what can still be of the head, where its first line has begun or not
abbrev pub part_on : Bool → ℕ → List ℕ → List ℕ
part_on true n bytes = lines_part n bytes
part_on false n bytes = head_lines bytes

abbrev pub left_on : Bool → ℕ → List ℕ → ℕ
left_on true n bytes = lines_left n bytes
left_on false n bytes = head_lines_left bytes

pub lines-feed : (n : ℕ) (bytes : List ℕ) → lines_part (suc n) (10 ∷ bytes) ≡ 10 ∷ lines_part n bytes
unfolding lines_part
lines-feed n bytes = refl

pub left-feed : (n : ℕ) (bytes : List ℕ) → lines_left (suc n) (10 ∷ bytes) ≡ lines_left n bytes
unfolding lines_left
left-feed n bytes = refl

pub lines-other : (n b : ℕ) (bytes : List ℕ) → b ≢ 10 → lines_part (suc n) (b ∷ bytes) ≡ b ∷ lines_part (suc n) bytes
unfolding lines_part
lines-other n b bytes ne = ap (λ (t : Bool). b ∷ (if t then lines_part n bytes else lines_part (suc n) bytes)) (ne_eqb b 10 ne)

pub left-other : (n b : ℕ) (bytes : List ℕ) → b ≢ 10 → lines_left (suc n) (b ∷ bytes) ≡ lines_left (suc n) bytes
unfolding lines_left
left-other n b bytes ne = ap (λ (t : Bool). if t then lines_left n bytes else lines_left (suc n) bytes) (ne_eqb b 10 ne)

pub newline-false : (b : ℕ) → b ≢ 13 → b ≢ 10 → is_newline b ≡ false
newline-false b cr lf = λ i. ne_eqb b 13 cr i || ne_eqb b 10 lf i

pub head-newline : (b : ℕ) (bytes : List ℕ) → is_newline b ≡ true → head_lines (b ∷ bytes) ≡ b ∷ head_lines bytes
unfolding head_lines
head-newline b bytes e = ap (λ (t : Bool). if t then b ∷ head_lines bytes else lines_part LINE_LIMIT (b ∷ bytes)) e

pub head_left-newline : (b : ℕ) (bytes : List ℕ) → is_newline b ≡ true → head_lines_left (b ∷ bytes) ≡ head_lines_left bytes
unfolding head_lines_left
head_left-newline b bytes e = ap (λ (t : Bool). if t then head_lines_left bytes else lines_left LINE_LIMIT (b ∷ bytes)) e

pub head-begins : (b : ℕ) (bytes : List ℕ) → is_newline b ≡ false → head_lines (b ∷ bytes) ≡ lines_part LINE_LIMIT (b ∷ bytes)
unfolding head_lines
head-begins b bytes e = ap (λ (t : Bool). if t then b ∷ head_lines bytes else lines_part LINE_LIMIT (b ∷ bytes)) e

pub head_left-begins : (b : ℕ) (bytes : List ℕ) → is_newline b ≡ false → head_lines_left (b ∷ bytes) ≡ lines_left LINE_LIMIT (b ∷ bytes)
unfolding head_lines_left
head_left-begins b bytes e = ap (λ (t : Bool). if t then head_lines_left bytes else lines_left LINE_LIMIT (b ∷ bytes)) e

pub lines-none : (n : ℕ) → lines_part n [] ≡ []
unfolding lines_part
lines-none zero = refl
lines-none (suc n) = refl

pub left-none : (n : ℕ) → lines_left n [] ≡ n
unfolding lines_left
left-none zero = refl
left-none (suc n) = refl

pub lines-zero : (bytes : List ℕ) → lines_part 0 bytes ≡ []
unfolding lines_part
lines-zero bytes = refl

pub left-zero : (bytes : List ℕ) → lines_left 0 bytes ≡ 0
unfolding lines_left
left-zero bytes = refl

pub head-none : head_lines [] ≡ []
unfolding head_lines
head-none = refl

pub head_left-none : head_lines_left [] ≡ LINE_LIMIT
unfolding head_lines_left
head_left-none = refl

-- ---- the state of the loop at a place

pub record IsCounted (bytes : List ℕ) (begun : Bool) (left end : ℕ) : Type 0 where
  pub part : head_lines bytes ≡ take end bytes ++ part_on begun left (drop end bytes)
  pub lines : head_lines_left bytes ≡ left_on begun left (drop end bytes)
  pub all : begun ≡ false → left ≡ LINE_LIMIT

pub counted-none : (bytes : List ℕ) → IsCounted bytes false LINE_LIMIT 0
counted-none bytes = record { part = refl; lines = refl; all = λ _. refl }

-- the byte at the place is passed
step : (bytes : List ℕ) (begun begun' : Bool) (left left' end b : ℕ) → end < length bytes → b ≡ get_or bytes end 0
    → ((rest : List ℕ) → part_on begun left (b ∷ rest) ≡ b ∷ part_on begun' left' rest)
    → ((rest : List ℕ) → left_on begun left (b ∷ rest) ≡ left_on begun' left' rest)
    → (begun' ≡ false → left' ≡ LINE_LIMIT)
    → IsCounted bytes begun left end → IsCounted bytes begun' left' (end + 1)
step bytes begun begun' left left' end b lt is part lines all x =
    let rest : List ℕ = drop (end + 1) bytes in
    let split : drop end bytes ≡ b ∷ rest = drop-cons bytes end 0 lt ∙ (λ i. sym is i ∷ drop (sym (add-one end) i) bytes) in
    let more : take (end + 1) bytes ≡ take end bytes ++ b ∷ [] = take_more bytes end 0 lt ∙ ap (λ (v : ℕ). take end bytes ++ v ∷ []) (sym is) in record {
      part = x.part ∙ ap (λ (t : List ℕ). take end bytes ++ part_on begun left t) split ∙ ap (λ (t : List ℕ). take end bytes ++ t) (part rest)
          ∙ sym (append_assoc (take end bytes) (b ∷ []) (part_on begun' left' rest)) ∙ ap (λ (t : List ℕ). t ++ part_on begun' left' rest) (sym more);
      lines = x.lines ∙ ap (λ (t : List ℕ). left_on begun left t) split ∙ lines rest;
      all = all;
    }

pub counted-feed : (bytes : List ℕ) (left end b : ℕ) → end < length bytes → b ≡ get_or bytes end 0 → 0 < left → b ≡ 10
    → IsCounted bytes true left end → IsCounted bytes true (left - 1) (end + 1)
counted-feed bytes zero end b lt is some e x = absurd (omega arith)
counted-feed bytes (suc n) end b lt is some e x =
    let low : suc n - 1 ≡ n = omega arith in
    subst (λ (m : ℕ). IsCounted bytes true m (end + 1)) (sym low)
    (step bytes true true (suc n) n end b lt is
    (λ rest. subst (λ (v : ℕ). lines_part (suc n) (v ∷ rest) ≡ v ∷ lines_part n rest) (sym e) (lines-feed n rest))
    (λ rest. subst (λ (v : ℕ). lines_left (suc n) (v ∷ rest) ≡ lines_left n rest) (sym e) (left-feed n rest))
    (λ f. absurd (cc)) x)

pub counted-other : (bytes : List ℕ) (left end b : ℕ) → end < length bytes → b ≡ get_or bytes end 0 → 0 < left → b ≢ 10
    → IsCounted bytes true left end → IsCounted bytes true left (end + 1)
counted-other bytes zero end b lt is some ne x = absurd (omega arith)
counted-other bytes (suc n) end b lt is some ne x =
    step bytes true true (suc n) (suc n) end b lt is (λ rest. lines-other n b rest ne) (λ rest. left-other n b rest ne) (λ f. absurd (cc)) x

pub counted-newline : (bytes : List ℕ) (left end b : ℕ) → end < length bytes → b ≡ get_or bytes end 0 → is_newline b ≡ true
    → IsCounted bytes false left end → IsCounted bytes false left (end + 1)
counted-newline bytes left end b lt is e x =
    step bytes false false left left end b lt is (λ rest. head-newline b rest e) (λ rest. head_left-newline b rest e) x.all x

pub counted-begins : (bytes : List ℕ) (left end b : ℕ) → end < length bytes → b ≡ get_or bytes end 0 → b ≢ 13 → b ≢ 10
    → IsCounted bytes false left end → IsCounted bytes true left (end + 1)
counted-begins bytes left end b lt is cr lf x =
    let full : left ≡ LINE_LIMIT = x.all refl in
    subst (λ (m : ℕ). IsCounted bytes true m (end + 1)) (sym full)
    (step bytes false true left LINE_LIMIT end b lt is
    (λ rest. head-begins b rest (newline-false b cr lf) ∙ lines-other 65 b rest lf)
    (λ rest. head_left-begins b rest (newline-false b cr lf) ∙ left-other 65 b rest lf)
    (λ f. refl) x)

-- ---- at the end of the loop

pub counted-spent : (bytes : List ℕ) (begun : Bool) (end : ℕ) → IsCounted bytes begun 0 end
    → (part_on begun 0 (drop end bytes) ≡ []) × (head_lines_left bytes ≡ 0)
counted-spent bytes true end x = (lines-zero (drop end bytes), x.lines ∙ left-zero (drop end bytes))
counted-spent bytes false end x = absurd (let none : 0 ≡ LINE_LIMIT = x.all refl in omega arith)

pub counted-out : (bytes : List ℕ) (begun : Bool) (left end : ℕ) → length bytes ≤ end → IsCounted bytes begun left end
    → (part_on begun left (drop end bytes) ≡ []) × (head_lines_left bytes ≡ left)
counted-out bytes true left end out x =
    let none : drop end bytes ≡ [] = drop_all end bytes out in
    (ap (λ (t : List ℕ). lines_part left t) none ∙ lines-none left, x.lines ∙ ap (λ (t : List ℕ). lines_left left t) none ∙ left-none left)
counted-out bytes false left end out x =
    let none : drop end bytes ≡ [] = drop_all end bytes out in
    (ap (λ (t : List ℕ). head_lines t) none ∙ head-none, x.lines ∙ ap (λ (t : List ℕ). head_lines_left t) none ∙ head_left-none ∙ sym (x.all refl))

pub part-ended : (bytes : List ℕ) (begun : Bool) (left end : ℕ) → end ≤ length bytes → end ≤ HEAD_LIMIT → IsCounted bytes begun left end
    → part_on begun left (drop end bytes) ≡ [] → take end bytes ≡ head_part bytes
unfolding head_part
part-ended bytes begun left end within least x none =
    let whole : head_lines bytes ≡ take end bytes = x.part ∙ ap (λ (t : List ℕ). take end bytes ++ t) none ∙ append-nil (take end bytes) in
    let len : length (take end bytes) ≡ end = length-take-le end bytes within in
    let fits : length (take end bytes) ≤ HEAD_LIMIT = omega arith in
    sym (ap (λ (t : List ℕ). take HEAD_LIMIT t) whole ∙ take_all HEAD_LIMIT (take end bytes) fits)

pub part-cut : (bytes : List ℕ) (begun : Bool) (left end : ℕ) → end ≤ length bytes → end ≡ HEAD_LIMIT → IsCounted bytes begun left end
    → take end bytes ≡ head_part bytes
unfolding head_part
part-cut bytes begun left end within is x =
    let len : length (take end bytes) ≡ end = length-take-le end bytes within in
    let fits : HEAD_LIMIT ≤ length (take end bytes) = omega arith in
    let over : length (take end bytes) ≤ HEAD_LIMIT = omega arith in
    sym (ap (λ (t : List ℕ). take HEAD_LIMIT t) x.part ∙ take-append-le HEAD_LIMIT (take end bytes) (part_on begun left (drop end bytes)) fits
    ∙ take_all HEAD_LIMIT (take end bytes) over)
