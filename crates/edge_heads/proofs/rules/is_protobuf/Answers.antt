use Rattle.std.proofs.Common.{◌≡◌, ℕ, ◌<◌, ◌≤◌, Bool, true, false, ◌&&◌, List, length, take, drop, ap, sym, ◌∙◌, arith, refl, bytes_eq, codes}
use Rattle.std.specs.Char.{to_ascii_lowercase}
use Rattle.std.proofs.lemmas.Slice.Eq.{bytes_eq-Decides}
use Rattle.std.proofs.lemmas.List.{length-map, take_rest, take_all}
use Rattle.edge_heads.specs.Headers.{lower, is_protobuf, ends_type}
use Rattle.edge_heads.proofs.RuleLemmas.{same_bytes}
use Rattle.edge_heads.proofs.rules.is_protobuf.Goals as goal

abbrev name : List ℕ
name = lower (codes "application/x-protobuf")

short : (value : List ℕ) → length value < 22 → bytes_eq (lower (take 22 value)) name ≡ false
short value h = by_test (bytes_eq (lower (take 22 value)) name) refl
  where
    by_test : (t : Bool) → bytes_eq (lower (take 22 value)) name ≡ t → t ≡ false
    by_test false e = refl
    by_test true e =
        let same : lower (take 22 value) ≡ name = (bytes_eq-Decides (lower (take 22 value)) name).0 e in
        let le : length value ≤ 22 = omega arith in
        let a : length (lower (take 22 value)) ≡ length value = length-map (take 22 value) to_ascii_lowercase ∙ ap length (take_all 22 value le) in
        let b : length (lower (take 22 value)) ≡ 22 = ap length same in
        absurd (omega arith)

pub returns-then-value-lt22 : goal.returns-then-value-lt22
unfolding is_protobuf
returns-then-value-lt22 c =
    sym (ap (λ (t : Bool). t && ends_type (drop 22 c.args.value.now)) (short c.args.value.now c.if-value-lt22.true))

pub returns-then-eq_ignore_ascii_case : goal.returns-then-eq_ignore_ascii_case
unfolding is_protobuf
returns-then-eq_ignore_ascii_case c =
    let v = c.args.value.now in
    let test : c.eq_ignore_ascii_case.result ≡ bytes_eq (lower (take 22 v)) (lower c.as_slice.result.now) =
    same_bytes c.eq_ignore_ascii_case.result (lower (take 22 v)) (lower c.as_slice.result.now) c.eq_ignore_ascii_case.ensures.test in
    let same : bytes_eq (lower (take 22 v)) name ≡ true =
    ap (λ (t : List ℕ). bytes_eq (lower (take 22 v)) (lower t)) (sym c.as_slice.ensures) ∙ sym test ∙ c.if-eq_ignore_ascii_case.true in
    c.ends_type.ensures ∙ ap (λ (t : List ℕ). ends_type t) (take_rest v 22) ∙ (λ i. sym same i && ends_type (drop 22 v))

pub returns-else-eq_ignore_ascii_case : goal.returns-else-eq_ignore_ascii_case
unfolding is_protobuf
returns-else-eq_ignore_ascii_case c =
    let v = c.args.value.now in
    let test : c.eq_ignore_ascii_case.result ≡ bytes_eq (lower (take 22 v)) (lower c.as_slice.result.now) =
    same_bytes c.eq_ignore_ascii_case.result (lower (take 22 v)) (lower c.as_slice.result.now) c.eq_ignore_ascii_case.ensures.test in
    let same : bytes_eq (lower (take 22 v)) name ≡ false =
    ap (λ (t : List ℕ). bytes_eq (lower (take 22 v)) (lower t)) (sym c.as_slice.ensures) ∙ sym test ∙ c.if-eq_ignore_ascii_case.false in
    c.if-eq_ignore_ascii_case.false ∙ (λ i. sym same i && ends_type (drop 22 v))
