-- Lookups of header lines.
use Rattle.std.proofs.Common.{◌≡◌, ℕ, ◌+◌, ◌<◌, Bool, true, false, cond, ◌||◌, if◌then◌else◌, List, [], ◌∷◌, ◌++◌, length, get_or, take, map, refl, sym, ap, ◌∙◌, subst, IsTrue, ◌↔◌, bytes_eq, append-nil, filter, append_assoc}
use Rattle.std.proofs.lemmas.Bool.Decides.{same_from_decides}
use Rattle.std.proofs.lemmas.Slice.Eq.{bytes_eq-Decides}
use Rattle.std.proofs.lemmas.List.{take_more}
use Rattle.std.proofs.lemmas.List.Elements.{filter-append}
use Rattle.std.specs.List.{list_any}
use Rattle.std.proofs.lemmas.List.Folds.{list_any-append}
use Rattle.httparse.specs.declared.spans.Span.{Span}
use Rattle.httparse.specs.declared.spans.HeaderSpan.{HeaderSpan}
use Rattle.httparse.specs.Spans.{span_bytes, IsWithin, header_bytes}
use Rattle.edge_heads.specs.declared.rules.Lone.{Lone}
use Rattle.edge_heads.specs.declared.rules.Lone.TheVariants.{Nowhere, Once, Several}
use Rattle.edge_heads.specs.Headers.{Header, is_named, values}
use Rattle.edge_heads.specs.Rules.{headers_at, IsLone, one_more_of}

pub same_bytes : (r : Bool) (a b : List ℕ) → IsTrue r ↔ (a ≡ b) → r ≡ bytes_eq a b
same_bytes r a b h = same_from_decides r (bytes_eq a b) h (bytes_eq-Decides a b)

abbrev pub value_if : List ℕ → Header → List (List ℕ)
value_if name header = if is_named name header then header.1 ∷ [] else []

pub values-more : (name : List ℕ) (headers : List Header) (header : Header)
    → values name (headers ++ header ∷ []) ≡ values name headers ++ value_if name header
unfolding values
values-more name headers header =
    ap (λ (t : List Header). map (λ h. h.1) t) (filter-append (is_named name) headers (header ∷ []))
    ∙ map-both (filter (is_named name) headers) (filter (is_named name) (header ∷ [])) ∙ ap (λ (t : List (List ℕ)). map (λ h. h.1) (filter (is_named name) headers) ++ t) (one (is_named name header) refl)
  where
    map-both : (a b : List Header) → map (λ h. h.1) (a ++ b) ≡ map (λ h. h.1) a ++ map (λ h. h.1) b
    map-both [] b = refl
    map-both (x ∷ a) b = ap (λ (t : List (List ℕ)). x.1 ∷ t) (map-both a b)

    one : (t : Bool) → is_named name header ≡ t → map (λ h. h.1) (cond (is_named name header) (header ∷ []) []) ≡ (if is_named name header then header.1 ∷ [] else [])
    one true e = rw e refl
    one false e = rw e refl

pub headers-more : (bytes : List ℕ) (spans : List HeaderSpan) (i : ℕ) (d : HeaderSpan) → i < length spans
    → headers_at bytes (take (i + 1) spans) ≡ headers_at bytes (take i spans) ++ header_bytes bytes (get_or spans i d) ∷ []
headers-more bytes spans i d lt =
    ap (λ (t : List HeaderSpan). headers_at bytes t) (take_more spans i d lt) ∙ both (take i spans) (get_or spans i d ∷ [])
  where
    both : (a b : List HeaderSpan) → headers_at bytes (a ++ b) ≡ headers_at bytes a ++ headers_at bytes b
    both [] b = refl
    both (x ∷ a) b = ap (λ (t : List Header). header_bytes bytes x ∷ t) (both a b)

pub lone-more : (bytes : List ℕ) (found : List (List ℕ)) (lone : Lone) (span : Span) → IsWithin (length bytes) span → IsLone bytes found lone
    → IsLone bytes (found ++ span_bytes bytes span ∷ []) (one_more_of lone span)
lone-more bytes found Nowhere span within x = (ap (λ (t : List (List ℕ)). t ++ span_bytes bytes span ∷ []) x, within)
lone-more bytes found (Once other) span within x =
    (span_bytes bytes other, span_bytes bytes span, [], ap (λ (t : List (List ℕ)). t ++ span_bytes bytes span ∷ []) x.0)
lone-more bytes found Several span within x =
    (x.0, x.1, x.2 ++ span_bytes bytes span ∷ [], ap (λ (t : List (List ℕ)). t ++ span_bytes bytes span ∷ []) x.3)

-- the header at the place has the name
pub named-values : (bytes name : List ℕ) (spans : List HeaderSpan) (i : ℕ) (d : HeaderSpan) → i < length spans
    → is_named name (header_bytes bytes (get_or spans i d)) ≡ true
    → values name (headers_at bytes (take (i + 1) spans)) ≡ values name (headers_at bytes (take i spans)) ++ span_bytes bytes (get_or spans i d).value ∷ []
named-values bytes name spans i d lt named =
    let front = values name (headers_at bytes (take i spans)) in
    let value = span_bytes bytes (get_or spans i d).value in
    ap (λ (t : List Header). values name t) (headers-more bytes spans i d lt) ∙ values-more name (headers_at bytes (take i spans)) (header_bytes bytes (get_or spans i d))
    ∙ ap (λ (t : Bool). front ++ (if t then value ∷ [] else [])) named

-- it hasn't
pub unnamed-values : (bytes name : List ℕ) (spans : List HeaderSpan) (i : ℕ) (d : HeaderSpan) → i < length spans
    → is_named name (header_bytes bytes (get_or spans i d)) ≡ false
    → values name (headers_at bytes (take (i + 1) spans)) ≡ values name (headers_at bytes (take i spans))
unnamed-values bytes name spans i d lt unnamed =
    let front = values name (headers_at bytes (take i spans)) in
    let value = span_bytes bytes (get_or spans i d).value in
    ap (λ (t : List Header). values name t) (headers-more bytes spans i d lt) ∙ values-more name (headers_at bytes (take i spans)) (header_bytes bytes (get_or spans i d))
    ∙ ap (λ (t : Bool). front ++ (if t then value ∷ [] else [])) unnamed ∙ append-nil front

pub named-found : (bytes name : List ℕ) (spans : List HeaderSpan) (i : ℕ) (d : HeaderSpan) (lone : Lone) → i < length spans
    → IsWithin (length bytes) (get_or spans i d).value → is_named name (header_bytes bytes (get_or spans i d)) ≡ true
    → IsLone bytes (values name (headers_at bytes (take i spans))) lone
    → IsLone bytes (values name (headers_at bytes (take (i + 1) spans))) (one_more_of lone (get_or spans i d).value)
named-found bytes name spans i d lone lt within named x =
    subst (λ (t : List (List ℕ)). IsLone bytes t (one_more_of lone (get_or spans i d).value)) (sym (named-values bytes name spans i d lt named))
    (lone-more bytes (values name (headers_at bytes (take i spans))) lone (get_or spans i d).value within x)

pub values-none : (name : List ℕ) → values name [] ≡ []
unfolding values
values-none name = refl

-- one more value that doesn't pass
pub none-more : (test : List ℕ → Bool) (found : List (List ℕ)) (value : List ℕ) → list_any test found ≡ false → test value ≡ false
    → list_any test (found ++ value ∷ []) ≡ false
none-more test found value x y = list_any-append test found (value ∷ []) ∙ (λ i. x i || (y i || false))

-- a value among those of a front passes
pub any-front : (test : List ℕ → Bool) (name : List ℕ) (front back : List Header) → list_any test (values name front) ≡ true
    → list_any test (values name (front ++ back)) ≡ true
any-front test name front [] x = ap (λ (t : List Header). list_any test (values name t)) (append-nil front) ∙ x
any-front test name front (h ∷ back) x =
    let more : list_any test (values name (front ++ h ∷ [])) ≡ true =
    ap (λ (t : List (List ℕ)). list_any test t) (values-more name front h) ∙ list_any-append test (values name front) (value_if name h)
    ∙ ap (λ (t : Bool). t || list_any test (value_if name h)) x in
    ap (λ (t : List Header). list_any test (values name t)) (sym (append_assoc front (h ∷ []) back)) ∙ any-front test name (front ++ h ∷ []) back more
