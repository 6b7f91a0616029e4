use Rattle.std.proofs.Common.{◌≡◌, ◌<◌, length, ℕ, ◌+◌, ◌-◌, Bool, true, false, nat_eq, List, subst, sym, arith, ◌∙◌, refl, eqb-true, eq-eqb, get_or}
use Rattle.httparse.specs.Pieces.{is_newline}
use Rattle.edge_heads.specs.Heads.{head_lines_left}
use Rattle.edge_heads.proofs.Lines.{IsCounted, counted-feed, counted-other, counted-newline, counted-begins, counted-spent, counted-out, part-ended, part-cut}
use Rattle.edge_heads.proofs.limits.head_end.Goals as goal
use Rattle.edge_heads.proofs.limits.head_end.Goals.{then-begun+then-byte-eq10, then-begun+else-byte-eq10, else-begun+then-byte-ne13+then-byte-ne10, else-begun+else-byte-ne13, else-byte-ne13-via-then-byte-ne13+else-byte-ne10, else-byte-ne13-via-else-byte-ne13}
use Rattle.edge_heads.proofs.limits.head_end.Goals.{then-bytes-test+then-end-lt-HEAD_LIMIT+else-lines_left-gt0, then-bytes-test+else-end-lt-HEAD_LIMIT, else-bytes-test}

counted : (bytes : List ℕ) (begun begun' : Bool) (left left' end : ℕ) → begun' ≡ begun → left' ≡ left → IsCounted bytes begun left end → IsCounted bytes begun' left' end
counted bytes begun begun' left left' end b l x = subst (λ (v : Bool). IsCounted bytes v left' end) (sym b) (subst (λ (n : ℕ). IsCounted bytes begun n end) (sym l) x)

newline : (b : ℕ) → b ≡ 13 → is_newline b ≡ true
newline b e = subst (λ (v : ℕ). is_newline v ≡ true) (sym e) refl

newline' : (b : ℕ) → b ≡ 10 → is_newline b ≡ true
newline' b e = subst (λ (v : ℕ). is_newline v ≡ true) (sym e) refl

pub bytes-preserved : goal.bytes-preserved
bytes-preserved c =
    let bytes = c.args.bytes.now in
    let end = c.bytes.end in
    let left = c.bytes.lines_left in
    let was = c.bytes.invariant.counted in
    let lt : end < length bytes = omega arith in
    let some : 0 < left = omega arith in
    record {
      counted = elim c.if-begun.branch [
        | then-begun+then-byte-eq10 w ↦
            counted bytes true _ (left - 1) _ (end + 1) (w.begun-is ∙ w.if-begun.true) w.lines_left-is
            (counted-feed bytes left end _ lt refl some w.if-byte-eq10.true (subst (λ (v : Bool). IsCounted bytes v left end) w.if-begun.true was))
        | then-begun+else-byte-eq10 w ↦
            counted bytes true _ left _ (end + 1) (w.begun-is ∙ w.if-begun.true) w.lines_left-is
            (counted-other bytes left end _ lt refl some w.if-byte-eq10.false (subst (λ (v : Bool). IsCounted bytes v left end) w.if-begun.true was))
        | else-begun+then-byte-ne13+then-byte-ne10 w ↦
            counted bytes true _ left _ (end + 1) w.begun-is w.lines_left-is
            (counted-begins bytes left end _ lt refl w.if-byte-ne13.true w.if-byte-ne10.true (subst (λ (v : Bool). IsCounted bytes v left end) w.if-begun.false was))
        | else-begun+else-byte-ne13 w ↦
            let e : is_newline (get_or bytes end 0) ≡ true = elim w.else-byte-ne13.branch [
              | else-byte-ne13-via-then-byte-ne13+else-byte-ne10 w' ↦ newline' _ w'.if-byte-ne10.false
              | else-byte-ne13-via-else-byte-ne13 w' ↦ newline _ w'.if-byte-ne13.false
            ] in
            counted bytes false _ left _ (end + 1) (w.begun-is ∙ w.if-begun.false) w.lines_left-is
            (counted-newline bytes left end _ lt refl e (subst (λ (v : Bool). IsCounted bytes v left end) w.if-begun.false was))
      ];
      within = omega arith;
      least = omega arith;
    }

pub returns-clause-part : goal.returns-clause-part
returns-clause-part c = elim c.bytes-test.branch [
  | then-bytes-test+then-end-lt-HEAD_LIMIT+else-lines_left-gt0 w ↦
      let none : c.bytes.lines_left ≡ 0 = omega arith in
      let x = subst (λ (n : ℕ). IsCounted c.args.bytes.now c.bytes.begun n c.bytes.end) none c.bytes.invariant.counted in
      part-ended c.args.bytes.now c.bytes.begun 0 c.bytes.end c.bytes.invariant.within c.bytes.invariant.least x (counted-spent c.args.bytes.now c.bytes.begun c.bytes.end x).0
  | then-bytes-test+else-end-lt-HEAD_LIMIT w ↦
      part-cut c.args.bytes.now c.bytes.begun c.bytes.lines_left c.bytes.end c.bytes.invariant.within (omega arith) c.bytes.invariant.counted
  | else-bytes-test w ↦
      part-ended c.args.bytes.now c.bytes.begun c.bytes.lines_left c.bytes.end c.bytes.invariant.within c.bytes.invariant.least c.bytes.invariant.counted
      (counted-out c.args.bytes.now c.bytes.begun c.bytes.lines_left c.bytes.end (omega arith) c.bytes.invariant.counted).0
]

both : (left lines : ℕ) → lines ≡ left → (nat_eq left 0 ≡ true → lines ≡ 0) × (lines ≡ 0 → nat_eq left 0 ≡ true)
both left lines e = (λ t. e ∙ eqb-true left 0 t, λ z. eq-eqb left 0 (sym e ∙ z))

pub returns-clause-lines : goal.returns-clause-lines
returns-clause-lines c below = both c.bytes.lines_left (head_lines_left c.args.bytes.now) (elim c.bytes-test.branch [
  | then-bytes-test+then-end-lt-HEAD_LIMIT+else-lines_left-gt0 w ↦
      let none : c.bytes.lines_left ≡ 0 = omega arith in
      let x = subst (λ (n : ℕ). IsCounted c.args.bytes.now c.bytes.begun n c.bytes.end) none c.bytes.invariant.counted in
      (counted-spent c.args.bytes.now c.bytes.begun c.bytes.end x).1 ∙ sym none
  | then-bytes-test+else-end-lt-HEAD_LIMIT w ↦ absurd (omega arith)
  | else-bytes-test w ↦
      (counted-out c.args.bytes.now c.bytes.begun c.bytes.lines_left c.bytes.end (omega arith) c.bytes.invariant.counted).1
])
