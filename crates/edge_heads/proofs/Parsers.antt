-- From what `httparse` tells to what is told of a head.
use Rattle.std.proofs.Common.{◌≡◌, ℕ, ◌<◌, ◌≤◌, true, false, List, [], ◌∷◌, ◌++◌, length, take, drop, map, sym, ap, ◌∙◌, subst, arith, append_assoc, append-nil, inl, inr, length-append, ◌⊎◌, ◌≢◌, not, ◌||◌, ne_eqb}
use Rattle.std.proofs.lemmas.List.{take-append-drop, length-take-le, length-map}
use Rattle.std.proofs.Math.Seq.{drop-append_seam}
use Rattle.std.proofs.lemmas.List.Elements.{All-head, All-tail, All-nil, All-cons}
use Rattle.httparse.specs.declared.spans.HeaderSpan.{HeaderSpan}
use Rattle.httparse.specs.declared.spans.RequestSpans.{RequestSpans}
use Rattle.httparse.specs.declared.spans.ResponseSpans.{ResponseSpans}
use Rattle.httparse.specs.Grammar.{LineEnd, crlf, lf, print_end, print_blank, print_section, is_uri_byte, AllPass, RequestHead, HasNoRequest, NeverHasRequest, MayBecomeRequest, ResponseHead, HasNoResponse, NeverHasResponse, MayBecomeResponse}
use Rattle.httparse.specs.Spans.{span_bytes, IsRequestAt, IsResponseAt, AreFieldsAt, name_and_value, RequestOverflows, RequestExceeds, ResponseOverflows, ResponseExceeds}
use Rattle.edge_heads.specs.declared.TheConstants.{HEADER_LIMIT, HEAD_LIMIT}
use Rattle.edge_heads.specs.declared.values.Side.{Side}
use Rattle.edge_heads.specs.declared.values.Side.TheVariants.{Requests, Responses}
use Rattle.edge_heads.specs.declared.values.BodyForm.{BodyForm}
use Rattle.edge_heads.specs.declared.values.HttpHead.{HttpHead}
use Rattle.edge_heads.specs.Headers.{Header, body_form}
use Rattle.edge_heads.specs.Rules.{headers_at}
use Rattle.edge_heads.specs.Heads.{Head, asks, answers, print_head, fields_of, ReadsHead, HasNoHead, CanBecomeHead, IsNoHead, EndsInTarget, is_target_byte, form_on, head_with, head_part, IsBegun}
use Rattle.edge_heads.proofs.Shapes.{head-shape, same-fields, last_of, exceeding-begins}
use Rattle.edge_heads.specs.Parsing.{IsWholeHead, Exceeds, IsHeadFound}

-- ---- no head

pub no_request : (bytes : List ℕ) → HasNoRequest bytes → HasNoHead Requests bytes
no_request bytes none (asks h) rest x lines = none h rest x
no_request bytes none (answers h) rest x lines = x.0

pub no_small_request : (bytes : List ℕ) → RequestOverflows 64 bytes → HasNoHead Requests bytes
no_small_request bytes over (asks h) rest x lines =
    let many : 64 < length h.fields = over [] h rest (x.0, append-nil bytes ∙ x.1) in absurd (omega arith)
no_small_request bytes over (answers h) rest x lines = x.0

pub no_response : (bytes : List ℕ) → HasNoResponse bytes → HasNoHead Responses bytes
no_response bytes none (asks h) rest x lines = x.0
no_response bytes none (answers h) rest x lines = none h rest x

pub no_small_response : (bytes : List ℕ) → ResponseOverflows 64 bytes → HasNoHead Responses bytes
no_small_response bytes over (asks h) rest x lines = x.0
no_small_response bytes over (answers h) rest x lines =
    let many : 64 < length h.fields = over [] h rest (x.0, append-nil bytes ∙ x.1) in absurd (omega arith)

-- ---- what may come

pub request_may : (bytes : List ℕ) → MayBecomeRequest bytes → CanBecomeHead Requests bytes
request_may bytes x = elim x [
  | inl whole ↦ inl (whole.0, asks whole.1, whole.2)
  | inr inside ↦ inr (inside.0, inside.1, inside.2, inside.3, target inside.2 inside.4, inside.5)
]
  where
    target : (a : List ℕ) → AllPass is_uri_byte a → AllPass is_target_byte a
    target [] all = All-nil (λ b. is_target_byte b ≡ true)
    target (b ∷ a) all = All-cons (λ b. is_target_byte b ≡ true) b a (byte b (All-head (λ b. is_uri_byte b ≡ true) b a all)) (target a (All-tail (λ b. is_uri_byte b ≡ true) b a all))
      where
        byte : (b : ℕ) → is_uri_byte b ≡ true → is_target_byte b ≡ true
        byte b uri =
            let blank : b ≢ 32 = λ e. absurd (let t : true ≡ false = sym uri ∙ ap is_uri_byte e in cc) in
            let feed : b ≢ 10 = λ e. absurd (let t : true ≡ false = sym uri ∙ ap is_uri_byte e in cc) in
            λ i. not (ne_eqb b 32 blank i || ne_eqb b 10 feed i)

pub response_may : (bytes : List ℕ) → MayBecomeResponse bytes → CanBecomeHead Responses bytes
response_may bytes x = inl (x.0, answers x.1, x.2)

pub request_exceeds : (bytes : List ℕ) → RequestExceeds 64 bytes → Exceeds Requests bytes
request_exceeds bytes x = record { front = x.0; rest = x.1; parts = x.2; head = asks x.3; reads = x.4; many = x.5 }

pub response_exceeds : (bytes : List ℕ) → ResponseExceeds 64 bytes → Exceeds Responses bytes
response_exceeds bytes x = record { front = x.0; rest = x.1; parts = x.2; head = answers x.3; reads = x.4; many = x.5 }

pub request_never : (bytes : List ℕ) → NeverHasRequest bytes → (EndsInTarget Requests bytes → ⊥) → IsNoHead Requests bytes
request_never bytes never outside = record { never = by_head; outside = outside }
  where
    by_head : (more : List ℕ) (h : Head) (rest : List ℕ) → ReadsHead Requests (bytes ++ more) h rest → ⊥
    by_head more (asks h) rest y = never more h rest y
    by_head more (answers h) rest y = y.0

pub response_never : (bytes : List ℕ) → NeverHasResponse bytes → IsNoHead Responses bytes
response_never bytes never = record { never = by_head; outside = λ e. e }
  where
    by_head : (more : List ℕ) (h : Head) (rest : List ℕ) → ReadsHead Responses (bytes ++ more) h rest → ⊥
    by_head more (asks h) rest y = y.0
    by_head more (answers h) rest y = never more h rest y

-- ---- a whole head

count-fields : (bytes : List ℕ) (spans : List HeaderSpan) (n : ℕ) (h : Head) → n ≤ length spans → length spans ≤ HEADER_LIMIT
    → AreFieldsAt bytes spans n (fields_of h) → length (fields_of h) ≤ HEADER_LIMIT
count-fields bytes spans n h fits room e =
    let a : length (headers_at bytes (take n spans)) ≡ length (take n spans) = length-map (take n spans) _ in
    let b : length (take n spans) ≡ n = length-take-le n spans fits in
    let d : length (map name_and_value (fields_of h)) ≡ length (fields_of h) = length-map (fields_of h) name_and_value in
    let f : length (headers_at bytes (take n spans)) ≡ length (map name_and_value (fields_of h)) = ap length e in
    omega arith

pub request_whole : (bytes : List ℕ) (spans : List HeaderSpan) (r : RequestSpans) (h : RequestHead) (told : HttpHead) (form : BodyForm)
    → IsRequestAt bytes spans r h → r.len ≤ length bytes → r.headers ≤ length spans → length spans ≤ HEADER_LIMIT
    → told ≡ head_with (span_bytes bytes r.method) (span_bytes bytes r.path) 0 r.version (headers_at bytes (take r.headers spans))
    → form ≡ form_on Requests (body_form (headers_at bytes (take r.headers spans)))
    → IsWholeHead Requests bytes told form r.len
request_whole bytes spans r h told form at within fits room t f = record {
  head = asks h;
  reads = at.reads;
  len_is = at.len;
  within = within;
  lines = count-fields bytes spans r.headers (asks h) fits room at.fields;
  told_is = t ∙ (λ i. head_with (at.method i) (at.path i) 0 (at.version i) (at.fields i));
  form_is = f ∙ ap (λ (t : List Header). form_on Requests (body_form t)) at.fields;
}

pub response_whole : (bytes : List ℕ) (spans : List HeaderSpan) (r : ResponseSpans) (h : ResponseHead) (told : HttpHead) (form : BodyForm)
    → IsResponseAt bytes spans r h → r.len ≤ length bytes → r.headers ≤ length spans → length spans ≤ HEADER_LIMIT
    → told ≡ head_with [] [] r.code r.version (headers_at bytes (take r.headers spans))
    → form ≡ body_form (headers_at bytes (take r.headers spans))
    → IsWholeHead Responses bytes told form r.len
response_whole bytes spans r h told form at within fits room t f = record {
  head = answers h;
  reads = at.reads;
  len_is = at.len;
  within = within;
  lines = count-fields bytes spans r.headers (answers h) fits room at.fields;
  told_is = t ∙ (λ i. head_with [] [] (at.code i) (at.version i) (at.fields i));
  form_is = f ∙ ap (λ (t : List Header). body_form t) at.fields;
}

-- ---- from the part to the bytes

pub some_bytes : (side : Side) (h : Head) (bytes rest : List ℕ) → ReadsHead side bytes h rest → 0 < length (print_head h)
some_bytes side h bytes rest x =
    let s = head-shape side h x.0 in
    let e : length (print_head h) ≡ length (print_blank s.blank ++ (s.line ++ (print_end s.end ++ print_section (fields_of h) (last_of h)))) =
    ap (λ (k : Head). length (print_head k)) (sym (same-fields h)) ∙ ap length (s.prints (fields_of h) (last_of h)) in
    let a = length-append (print_blank s.blank) (s.line ++ (print_end s.end ++ print_section (fields_of h) (last_of h))) in
    let b = length-append s.line (print_end s.end ++ print_section (fields_of h) (last_of h)) in
    let c = length-append (print_end s.end) (print_section (fields_of h) (last_of h)) in
    let d : 0 < length (print_end s.end) = ended s.end in
    omega arith
  where
    ended : (e : LineEnd) → 0 < length (print_end e)
    ended crlf = omega arith
    ended lf = omega arith

pub found : (side : Side) (bytes : List ℕ) (e : ℕ) (told : HttpHead) (form : BodyForm) (len : ℕ) → e ≤ length bytes → e ≤ HEAD_LIMIT
    → IsWholeHead side (take e bytes) told form len → IsHeadFound side bytes told form len
found side bytes e told form len within least x =
    let text = print_head x.head in
    let rest = drop len (take e bytes) ++ drop e bytes in
    let whole : bytes ≡ text ++ rest =
    sym (take-append-drop e bytes) ∙ ap (λ (t : List ℕ). t ++ drop e bytes) x.reads.1 ∙ append_assoc text (drop len (take e bytes)) (drop e bytes) in
    let after : drop len bytes ≡ rest =
    ap (λ (n : ℕ). drop n bytes) x.len_is ∙ ap (λ (t : List ℕ). drop (length text) t) whole ∙ drop-append_seam text rest in
    let cut : length (take e bytes) ≡ e = length-take-le e bytes within in
    let some : 0 < length text = some_bytes side x.head (take e bytes) _ x.reads in
    let inside : len ≤ length (take e bytes) = x.within in
    let is : len ≡ length text = x.len_is in
    record {
      head = x.head;
      reads = record {
        reads = (x.reads.0, whole ∙ ap (λ (t : List ℕ). text ++ t) (sym after));
        fits = record { bytes = omega arith; lines = x.lines };
      };
      within = omega arith;
      some = omega arith;
      told_is = x.told_is;
      form_is = x.form_is;
    }

pub begun : (side : Side) (bytes : List ℕ) (e : ℕ) → take e bytes ≡ head_part bytes → HasNoHead side (take e bytes) × (CanBecomeHead side (take e bytes) ⊎ Exceeds side (take e bytes))
    → IsBegun side (head_part bytes)
begun side bytes e part x =
    subst (IsBegun side) part (record {
      none = x.0;
      can = elim x.1 [
        | inl can ↦ can
        | inr over ↦ exceeding-begins side bytes (take e bytes) (drop e bytes) part (sym (take-append-drop e bytes)) over
      ];
    })

pub part-length : (bytes : List ℕ) (e : ℕ) → e ≤ length bytes → take e bytes ≡ head_part bytes → length (head_part bytes) ≡ e
part-length bytes e within part = ap length (sym part) ∙ length-take-le e bytes within
