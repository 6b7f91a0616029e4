use Rattle.std.proofs.Common.{◌≡◌, ℕ, ◌+◌, ◌<◌, Bool, true, false, ◌||◌, List, [], ◌∷◌, ◌++◌, take, drop, length, ap, sym, ◌∙◌, refl}
use Rattle.std.specs.List.{list_any}
use Rattle.std.proofs.lemmas.List.{take-append-drop}
use Rattle.std.proofs.lemmas.List.Folds.{list_any-append}
use Rattle.httparse.specs.declared.spans.HeaderSpan.{HeaderSpan}
use Rattle.httparse.specs.Spans.{header_bytes}
use Rattle.edge_heads.specs.Headers.{Header, values}
use Rattle.edge_heads.specs.Rules.{headers_at, rule_test}
use Rattle.edge_heads.proofs.RuleLemmas.{values-none, named-values, unnamed-values, none-more, any-front}
use Rattle.edge_heads.proofs.rules.any_value.Goals as goal
use Rattle.edge_heads.proofs.rules.any_value.Goals.{else-is_name-via-then-is_name+else-holds, else-is_name-via-else-is_name}

pub loop-header-init : goal.loop-header-init
loop-header-init c = ap (λ (t : List (List ℕ)). list_any (rule_test c.args.rule) t) (values-none c.args.name.now)

headers-split : (bytes : List ℕ) (a b : List HeaderSpan) → headers_at bytes (a ++ b) ≡ headers_at bytes a ++ headers_at bytes b
headers-split bytes [] b = refl
headers-split bytes (x ∷ a) b = ap (λ (t : List Header). header_bytes bytes x ∷ t) (headers-split bytes a b)

pub returns-then-holds : goal.returns-then-holds
returns-then-holds c =
    let bytes = c.args.bytes.now in
    let name = c.args.name.now in
    let spans = c.args.headers.now in
    let test = rule_test c.args.rule in
    let i = c.loop-header.header-index in
    let lt : i < length spans = c.loop-header-test.true in
    let passes : test c.of.result.now ≡ true = sym c.holds.ensures ∙ c.if-holds.true in
    let here : list_any test (values name (headers_at bytes (take (i + 1) spans))) ≡ true =
    ap (λ (t : List (List ℕ)). list_any test t) (named-values bytes name spans i _ lt (sym c.is_name.ensures ∙ c.if-is_name.true))
    ∙ list_any-append test (values name (headers_at bytes (take i spans))) _
    ∙ ap (λ (t : List ℕ). list_any test (values name (headers_at bytes (take i spans))) || (test t || false)) (sym c.of.ensures)
    ∙ ap (λ (t : Bool). list_any test (values name (headers_at bytes (take i spans))) || (t || false)) passes
    ∙ ap (λ (t : Bool). t || true) c.loop-header.invariant in
    sym (ap (λ (t : List HeaderSpan). list_any test (values name (headers_at bytes t))) (sym (take-append-drop (i + 1) spans))
    ∙ ap (λ (t : List Header). list_any test (values name t)) (headers-split bytes (take (i + 1) spans) (drop (i + 1) spans))
    ∙ any-front test name (headers_at bytes (take (i + 1) spans)) (headers_at bytes (drop (i + 1) spans)) here)

pub loop-header-preserved : goal.loop-header-preserved
loop-header-preserved c =
    let bytes = c.args.bytes.now in
    let name = c.args.name.now in
    let spans = c.args.headers.now in
    let test = rule_test c.args.rule in
    let i = c.loop-header.header-index in
    let lt : i < length spans = c.loop-header-test.true in
    elim c.else-is_name.branch [
      | else-is_name-via-then-is_name+else-holds w ↦
          ap (λ (t : List (List ℕ)). list_any test t) (named-values bytes name spans i _ lt (sym c.is_name.ensures ∙ w.if-is_name.true))
          ∙ none-more test (values name (headers_at bytes (take i spans))) _ c.loop-header.invariant
          (ap test (sym w.of.ensures) ∙ sym w.holds.ensures ∙ w.if-holds.false)
      | else-is_name-via-else-is_name w ↦
          ap (λ (t : List (List ℕ)). list_any test t) (unnamed-values bytes name spans i _ lt (sym c.is_name.ensures ∙ w.if-is_name.false)) ∙ c.loop-header.invariant
    ]
