use Rattle.std.proofs.Common.{◌≡◌, ℕ, ◌+◌, ◌*◌, ◌-◌, ◌<◌, ◌≤◌, ◌^◌, true, false, ◌&&◌, nat_le, List, length, take, get_or, ap, sym, ◌∙◌, arith, eqb-true, eq-eqb}
use Rattle.std.proofs.lemmas.Bool.Decides.{nat_tests}
use Rattle.std.specs.List.{list_all}
use Rattle.std.specs.Char.{is_ascii_digit, digit_value}
use Rattle.std.specs.Str.Parse.{digits_value}
use Rattle.std.proofs.Math.Nat.{pow-le-pow_right}
use Rattle.std.proofs.lemmas.Grind.{pow_more}
use Rattle.std.proofs.lemmas.List.{take_more, take_all}
use Rattle.std.proofs.lemmas.List.Folds.{list_all_more, list_all_at}
use Rattle.httparse.proofs.ChunkLemmas.{digits_value_after_push}
use Rattle.edge_heads.specs.Headers.{is_length}
use Rattle.edge_heads.proofs.rules.decimal.Goals as goal
use Rattle.edge_heads.proofs.rules.decimal.Goals.{then-is_empty-via-then-is_empty, then-is_empty-via-else-is_empty+then-digits-gt19}

empty : (d : List ℕ) → length d ≡ 0 → is_length d ≡ false
unfolding is_length
empty d e = ap (λ (n : ℕ). nat_le 1 n && nat_le n 19 && list_all is_ascii_digit d) e

long : (d : List ℕ) → 19 < length d → is_length d ≡ false
unfolding is_length
long d h =
    let fails : nat_le (length d) 19 ≡ false = grind (arith, nat_tests) in
    let some : nat_le 1 (length d) ≡ true = grind (arith, nat_tests) in
    (λ i. some i && fails i && list_all is_ascii_digit d)

other : (d : List ℕ) → 0 < length d → length d ≤ 19 → list_all is_ascii_digit d ≡ false → is_length d ≡ false
unfolding is_length
other d low high h =
    let some : nat_le 1 (length d) ≡ true = grind (arith, nat_tests) in
    let few : nat_le (length d) 19 ≡ true = grind (arith, nat_tests) in
    (λ i. some i && few i && h i)

right : (d : List ℕ) → 0 < length d → length d ≤ 19 → list_all is_ascii_digit d ≡ true → is_length d ≡ true
unfolding is_length
right d low high h =
    let some : nat_le 1 (length d) ≡ true = grind (arith, nat_tests) in
    let few : nat_le (length d) 19 ≡ true = grind (arith, nat_tests) in
    (λ i. some i && few i && h i)

fits : (n i len : ℕ) → n < 10 ^ i → i < len → len ≤ 19 → n < 10 ^ 18
fits n i len small lt few =
    let le : i ≤ 18 = omega arith in
    let p : 10 ^ i ≤ 10 ^ 18 = pow-le-pow_right (omega arith) le in
    omega arith

pub returns-then-is_empty : goal.returns-then-is_empty
returns-then-is_empty c = elim c.then-is_empty.branch [
  | then-is_empty-via-then-is_empty w ↦ empty c.args.digits.now (eqb-true (length c.args.digits.now) 0 (sym c.is_empty.ensures ∙ w.if-is_empty.true))
  | then-is_empty-via-else-is_empty+then-digits-gt19 w ↦ long c.args.digits.now w.if-digits-gt19.true
]

pub overflow_mul-number : goal.overflow_mul-number
overflow_mul-number c =
    let small = c.loop-digit.invariant.small in
    let p : c.loop-digit.number < 10 ^ 18 = fits c.loop-digit.number c.loop-digit.digit-index (length c.args.digits.now) small c.loop-digit-test.true (omega arith) in
    omega arith

pub overflow_add-number : goal.overflow_add-number
overflow_add-number c =
    let small = c.loop-digit.invariant.small in
    let p : c.loop-digit.number < 10 ^ 18 = fits c.loop-digit.number c.loop-digit.digit-index (length c.args.digits.now) small c.loop-digit-test.true (omega arith) in
    let d = get_or c.args.digits.now c.loop-digit.digit-index 0 in
    let range : (48 ≤ d) × (d ≤ 57) = c.if-not-is_ascii_digit.ensures.cases in
    omega arith

pub returns-then-not-is_ascii_digit : goal.returns-then-not-is_ascii_digit
returns-then-not-is_ascii_digit c =
    let d = c.args.digits.now in
    let lt : c.loop-digit.digit-index < length d = c.loop-digit-test.true in
    other d (omega arith) (omega arith)
    (list_all_at is_ascii_digit d c.loop-digit.digit-index 0 lt (sym c.is_ascii_digit.ensures.value ∙ c.if-not-is_ascii_digit.true))

digit : (d : ℕ) → (48 ≤ d) × (d ≤ 57) → digit_value d ≡ d - 48
digit d h = let low : 48 ≤ d = h.0 in let high : d ≤ 57 = h.1 in grind (arith, nat_tests)

push : (digits : List ℕ) (i n : ℕ) → i < length digits → n ≡ digits_value 10 (take i digits) → (48 ≤ get_or digits i 0) × (get_or digits i 0 ≤ 57)
    → n * 10 + (get_or digits i 0 - 48) ≡ digits_value 10 (take (i + 1) digits)
push digits i n lt e range =
    (λ j. e j * 10 + sym (digit (get_or digits i 0) range) j)
    ∙ sym (digits_value_after_push 10 0 (take i digits) (get_or digits i 0)) ∙ ap (λ (t : List ℕ). digits_value 10 t) (sym (take_more digits i 0 lt))

pub loop-digit-preserved : goal.loop-digit-preserved
loop-digit-preserved c =
    let digits = c.args.digits.now in
    let i = c.loop-digit.digit-index in
    let n = c.loop-digit.number in
    let lt : i < length digits = c.loop-digit-test.true in
    let range : (48 ≤ get_or digits i 0) × (get_or digits i 0 ≤ 57) = c.if-not-is_ascii_digit.ensures.cases in
    let pass : is_ascii_digit (get_or digits i 0) ≡ true = sym c.is_ascii_digit.ensures.value ∙ c.if-not-is_ascii_digit.false in
    let all = c.loop-digit.invariant.all in
    let small : n < 10 ^ i = c.loop-digit.invariant.small in
    let power : 10 ^ (i + 1) ≡ 10 ^ i * 10 = pow_more 10 i in
    record {
      value = push digits i n lt c.loop-digit.invariant.value range;
      all = list_all_more is_ascii_digit digits i 0 lt ∙ (λ j. all j && pass j);
      small = omega arith;
    }

pub returns : goal.returns
returns c =
    let d = c.args.digits.now in
    let i = c.loop-digit.digit-index in
    let out : length d ≤ i = omega arith in
    let whole : take i d ≡ d = take_all i d out in
    let all : list_all is_ascii_digit d ≡ true = ap (λ (t : List ℕ). list_all is_ascii_digit t) (sym whole) ∙ c.loop-digit.invariant.all in
    let ne : length d ≡ 0 → ⊥ = λ e. absurd (let t : true ≡ false = sym (eq-eqb (length d) 0 e) ∙ sym c.is_empty.ensures ∙ c.if-is_empty.false in cc) in
    let some : 0 < length d = omega arith in
    (right d some (omega arith) all, c.loop-digit.invariant.value ∙ ap (λ (t : List ℕ). digits_value 10 t) whole)
