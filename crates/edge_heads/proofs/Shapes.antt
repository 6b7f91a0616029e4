-- The lines of a head, and how many of them can be of one.
use Rattle.std.proofs.Common.{◌≡◌, ℕ, zero, suc, ◌+◌, ◌≤◌, ◌≢◌, Bool, true, false, ◌==◌, List, [], ◌∷◌, ◌++◌, length, take, drop, refl, sym, ap, ◌∙◌, subst, arith, append_assoc, append-nil, flat_map, Option, None, Some, inl, length-append, length-take, All, not}
use Rattle.std.proofs.lemmas.List.{take-append-drop, length-take-le}
use Rattle.std.proofs.lemmas.List.Elements.{All-head, All-tail, All-take}
use Rattle.std.proofs.lemmas.Grind.{flat_map-append}
use Rattle.std.proofs.lemmas.List.Sums.{AllPass-from_list_all}
use Rattle.httparse.specs.Grammar.{is_token_byte, is_uri_byte, is_value_byte, AllPass, LineEnd, crlf, lf, print_end, print_blank, print_version, print_reason, reason_phrase, Field, IsField, print_field, print_section, RequestHead, IsRequestHead, print_request, ResponseHead, IsResponseHead, print_response}
use Rattle.std.specs.Char.{is_ascii_digit}
use Rattle.httparse.specs.Pieces.{Stops, is_newline}
use Rattle.httparse.proofs.GrammarLemmas.{cons-append, print_request-append, print_response-append}
use Rattle.httparse.proofs.PieceLemmas.{Stops_token}
use Rattle.edge_heads.specs.declared.TheConstants.{LINE_LIMIT, HEAD_LIMIT}
use Rattle.edge_heads.specs.declared.values.Side.{Side}
use Rattle.edge_heads.specs.declared.values.Side.TheVariants.{Requests, Responses}
use Rattle.edge_heads.specs.Heads.{Head, asks, answers, print_head, fields_of, IsHeadOf, CanBecomeHead, lines_part, head_lines, head_part}
use Rattle.edge_heads.specs.Parsing.{Exceeds}
use Rattle.edge_heads.proofs.Lines.{lines-feed, lines-other, head-newline, head-begins, lines-zero}

-- ---- text without a line feed, and text that ends a line

pub record Passes (a : List ℕ) : Type 0 where
  pub part : (n : ℕ) (b : List ℕ) → lines_part (suc n) (a ++ b) ≡ a ++ lines_part (suc n) b

pub record EndsLine (a : List ℕ) : Type 0 where
  pub part : (n : ℕ) (b : List ℕ) → lines_part (suc n) (a ++ b) ≡ a ++ lines_part n b

pub passes-none : Passes []
passes-none = record { part = λ n b. refl }

pub passes-cons : (x : ℕ) (a : List ℕ) → x ≢ 10 → Passes a → Passes (x ∷ a)
passes-cons x a ne p = record { part = λ n b. lines-other n x (a ++ b) ne ∙ ap (λ (t : List ℕ). x ∷ t) (p.part n b) }

pub passes-append : (a b : List ℕ) → Passes a → Passes b → Passes (a ++ b)
passes-append a b p q = record {
  part = λ n r. ap (λ (t : List ℕ). lines_part (suc n) t) (append_assoc a b r) ∙ p.part n (b ++ r) ∙ ap (λ (t : List ℕ). a ++ t) (q.part n r)
      ∙ sym (append_assoc a b (lines_part (suc n) r));
}

pub passes-test : (test : ℕ → Bool) → test 10 ≡ false → (a : List ℕ) → AllPass test a → Passes a
passes-test test fails [] all = passes-none
passes-test test fails (x ∷ a) all =
    let pass : test x ≡ true = All-head (λ b. test b ≡ true) x a all in
    let ne : x ≢ 10 = λ e. absurd (let t : true ≡ false = sym pass ∙ ap test e ∙ fails in cc) in
    passes-cons x a ne (passes-test test fails a (All-tail (λ b. test b ≡ true) x a all))

pub ends-line : (a : List ℕ) (end : LineEnd) → Passes a → EndsLine (a ++ print_end end)
ends-line a crlf p = record {
  part = λ n b. ap (λ (t : List ℕ). lines_part (suc n) t) (append_assoc a (13 ∷ 10 ∷ []) b) ∙ p.part n (13 ∷ 10 ∷ b)
      ∙ ap (λ (t : List ℕ). a ++ t) (lines-other n 13 (10 ∷ b) (λ e. absurd (cc)) ∙ ap (λ (t : List ℕ). 13 ∷ t) (lines-feed n b))
      ∙ sym (append_assoc a (13 ∷ 10 ∷ []) (lines_part n b));
}
ends-line a lf p = record {
  part = λ n b. ap (λ (t : List ℕ). lines_part (suc n) t) (append_assoc a (10 ∷ []) b) ∙ p.part n (10 ∷ b)
      ∙ ap (λ (t : List ℕ). a ++ t) (lines-feed n b) ∙ sym (append_assoc a (10 ∷ []) (lines_part n b));
}

token-feed : is_token_byte 10 ≡ false
unfolding is_token_byte
token-feed = refl

pub field-ends : (f : Field) → IsField f → EndsLine (print_field f)
field-ends f x =
    ends-line (f.name ++ 58 ∷ f.raw) f.end
    (passes-append f.name (58 ∷ f.raw) (passes-test is_token_byte token-feed f.name x.name.1)
    (passes-cons 58 f.raw (λ e. absurd (cc)) (passes-test is_value_byte refl f.raw x.raw)))

pub fields-pass : (fs : List Field) (n m : ℕ) (b : List ℕ) → m ≡ length fs + n → All IsField fs
    → lines_part m (flat_map print_field fs ++ b) ≡ flat_map print_field fs ++ lines_part n b
fields-pass [] n m b e all = ap (λ (k : ℕ). lines_part k b) (let s : m ≡ n = omega arith in s)
fields-pass (f ∷ fs) n zero b e all = absurd (omega arith)
fields-pass (f ∷ fs) n (suc m) b e all =
    let less : m ≡ length fs + n = omega arith in
    ap (λ (t : List ℕ). lines_part (suc m) t) (append_assoc (print_field f) (flat_map print_field fs) b)
    ∙ (field-ends f (All-head IsField f fs all)).part m (flat_map print_field fs ++ b)
    ∙ ap (λ (t : List ℕ). print_field f ++ t) (fields-pass fs n m b less (All-tail IsField f fs all))
    ∙ sym (append_assoc (print_field f) (flat_map print_field fs) (lines_part n b))

pub blanks-pass : (ends : List LineEnd) (b : List ℕ) → head_lines (print_blank ends ++ b) ≡ print_blank ends ++ head_lines b
blanks-pass [] b = refl
blanks-pass (crlf ∷ ends) b =
    head-newline 13 (10 ∷ (print_blank ends ++ b)) refl ∙ ap (λ (t : List ℕ). 13 ∷ t) (head-newline 10 (print_blank ends ++ b) refl)
    ∙ ap (λ (t : List ℕ). 13 ∷ 10 ∷ t) (blanks-pass ends b)
blanks-pass (lf ∷ ends) b = head-newline 10 (print_blank ends ++ b) refl ∙ ap (λ (t : List ℕ). 10 ∷ t) (blanks-pass ends b)

pub first-passes : (b : List ℕ) → Stops is_newline b → head_lines b ≡ lines_part LINE_LIMIT b
first-passes [] s = absurd s
first-passes (x ∷ b) s = head-begins x b s

-- ---- the shape of a head

abbrev pub with_fields : Head → List Field → LineEnd → Head
with_fields (asks h) fields last = asks (record h { fields = fields; last = last })
with_fields (answers h) fields last = answers (record h { fields = fields; last = last })

abbrev pub last_of : Head → LineEnd
last_of (asks h) = h.last
last_of (answers h) = h.last

pub record Shape (side : Side) (h : Head) : Type 0 where
  pub blank : List LineEnd
  pub line : List ℕ
  pub end : LineEnd
  pub prints : (fields : List Field) (last : LineEnd)
      → print_head (with_fields h fields last) ≡ print_blank blank ++ (line ++ (print_end end ++ print_section fields last))
  pub passes : Passes line
  pub begins : (rest : List ℕ) → Stops is_newline (line ++ rest)
  pub again : (fields : List Field) (last : LineEnd) → All IsField fields → IsHeadOf side (with_fields h fields last)
  pub each : All IsField (fields_of h)

version-passes : (minor : ℕ) → minor ≤ 1 → Passes (print_version minor)
version-passes zero le = passes-test (λ b. not (b == 10)) refl (print_version 0) (AllPass-from_list_all (λ b. not (b == 10)) (print_version 0) refl)
version-passes (suc zero) le = passes-test (λ b. not (b == 10)) refl (print_version 1) (AllPass-from_list_all (λ b. not (b == 10)) (print_version 1) refl)
version-passes (suc (suc n)) le = absurd (omega arith)

request-shape : (h : RequestHead) → IsRequestHead h → Shape Requests (asks h)
request-shape h x = record {
  blank = h.blank;
  line = h.method ++ 32 ∷ (h.target ++ 32 ∷ print_version h.minor);
  end = h.line_end;
  prints = λ fields last. let k : RequestHead = record h { fields = fields; last = last } in
      sym (append-nil (print_request k)) ∙ print_request-append k []
      ∙ regroup (print_blank h.blank) h.method h.target (print_version h.minor) (print_end h.line_end) (print_section fields last);
  passes = passes-append h.method (32 ∷ (h.target ++ 32 ∷ print_version h.minor)) (passes-test is_token_byte token-feed h.method x.method.1)
      (passes-cons 32 (h.target ++ 32 ∷ print_version h.minor) (λ e. absurd (cc))
      (passes-append h.target (32 ∷ print_version h.minor) (passes-test is_uri_byte refl h.target x.target.1)
      (passes-cons 32 (print_version h.minor) (λ e. absurd (cc)) (version-passes h.minor x.minor))));
  begins = λ rest. subst (λ (t : List ℕ). Stops is_newline t) (sym (append_assoc h.method (32 ∷ (h.target ++ 32 ∷ print_version h.minor)) rest))
      (Stops_token h.method ((32 ∷ (h.target ++ 32 ∷ print_version h.minor)) ++ rest) x.method.0 x.method.1);
  again = λ fields last all. record { method = x.method; target = x.target; target_text = x.target_text; minor = x.minor; fields = all };
  each = x.fields;
}
  where
    regroup : (a b c d e f : List ℕ) → a ++ (b ++ 32 ∷ (c ++ 32 ∷ (d ++ (e ++ (f ++ []))))) ≡ a ++ ((b ++ 32 ∷ (c ++ 32 ∷ d)) ++ (e ++ f))
    regroup a b c d e f = simp (append_assoc, cons-append, append-nil)

reason-passes : (r : Option (List ℕ)) → AllPass is_value_byte (reason_phrase r) → Passes (print_reason r)
reason-passes None all = passes-none
reason-passes (Some phrase) all = passes-cons 32 phrase (λ e. absurd (cc)) (passes-test is_value_byte refl phrase all)

response-shape : (h : ResponseHead) → IsResponseHead h → Shape Responses (answers h)
response-shape h x = record {
  blank = h.blank;
  line = print_version h.minor ++ 32 ∷ (h.digits ++ print_reason h.reason);
  end = h.line_end;
  prints = λ fields last. let k : ResponseHead = record h { fields = fields; last = last } in
      sym (append-nil (print_response k)) ∙ print_response-append k []
      ∙ regroup (print_blank h.blank) (print_version h.minor) h.digits (print_reason h.reason) (print_end h.line_end) (print_section fields last);
  passes = passes-append (print_version h.minor) (32 ∷ (h.digits ++ print_reason h.reason)) (version-passes h.minor x.minor)
      (passes-cons 32 (h.digits ++ print_reason h.reason) (λ e. absurd (cc))
      (passes-append h.digits (print_reason h.reason) (passes-test is_ascii_digit refl h.digits x.digits.1) (reason-passes h.reason x.reason)));
  begins = λ rest. refl;
  again = λ fields last all. record { minor = x.minor; digits = x.digits; reason = x.reason; fields = all };
  each = x.fields;
}
  where
    regroup : (a b c d e f : List ℕ) → a ++ (b ++ 32 ∷ (c ++ (d ++ (e ++ (f ++ []))))) ≡ a ++ ((b ++ 32 ∷ (c ++ d)) ++ (e ++ f))
    regroup a b c d e f = simp (append_assoc, cons-append, append-nil)

pub head-shape : (side : Side) (h : Head) → IsHeadOf side h → Shape side h
head-shape Requests (asks h) x = request-shape h x
head-shape Requests (answers h) x = absurd x
head-shape Responses (asks h) x = absurd x
head-shape Responses (answers h) x = response-shape h x

pub same-fields : (h : Head) → with_fields h (fields_of h) (last_of h) ≡ h
same-fields (asks h) = refl
same-fields (answers h) = refl

-- ---- a head is whole within so many lines

-- a first line with its end and so many field lines go before what is left of the lines
pub lines-of-head : (side : Side) (h : Head) (x : Shape side h) (fields : List Field) (n : ℕ) (b : List ℕ) → All IsField fields → length fields + n ≡ 65
    → head_lines (print_blank x.blank ++ (x.line ++ (print_end x.end ++ (flat_map print_field fields ++ b))))
    ≡ print_blank x.blank ++ (x.line ++ (print_end x.end ++ (flat_map print_field fields ++ lines_part n b)))
lines-of-head side h x fields n b all e =
    let rest : List ℕ = flat_map print_field fields ++ b in
    let full : 65 ≡ length fields + n = omega arith in
    blanks-pass x.blank (x.line ++ (print_end x.end ++ rest))
    ∙ ap (λ (t : List ℕ). print_blank x.blank ++ t) (first-passes (x.line ++ (print_end x.end ++ rest)) (x.begins (print_end x.end ++ rest))
    ∙ ap (λ (t : List ℕ). lines_part 66 t) (sym (append_assoc x.line (print_end x.end) rest))
    ∙ (ends-line x.line x.end x.passes).part 65 rest
    ∙ append_assoc x.line (print_end x.end) (lines_part 65 rest)
    ∙ ap (λ (t : List ℕ). x.line ++ (print_end x.end ++ t)) (fields-pass fields n 65 b full all))

-- ---- a head with too many lines

snoc-inj : (a b : List ℕ) (x : ℕ) → a ++ x ∷ [] ≡ b ++ x ∷ [] → a ≡ b
snoc-inj [] [] x e = refl
snoc-inj [] (y ∷ []) x e = absurd (cc)
snoc-inj [] (y ∷ (z ∷ b)) x e = absurd (cc)
snoc-inj (y ∷ []) [] x e = absurd (cc)
snoc-inj (y ∷ (z ∷ a)) [] x e = absurd (cc)
snoc-inj (y ∷ a) (z ∷ b) x e =
    let tails : a ++ x ∷ [] ≡ b ++ x ∷ [] = cc in
    let first : y ≡ z = cc in
    (λ i. first i ∷ snoc-inj a b x tails i)

before-end : (end : LineEnd) → (front : List ℕ) × (print_end end ≡ front ++ 10 ∷ [])
before-end crlf = (13 ∷ [], refl)
before-end lf = ([], refl)

-- Where more header lines than fit can come of the part, it is the first 66 lines, and can become a head.
pub exceeding-begins : (side : Side) (bytes part more : List ℕ) → part ≡ head_part bytes → bytes ≡ part ++ more → Exceeds side part → CanBecomeHead side part
unfolding head_part
exceeding-begins side bytes part more is_part split x =
    let h = x.head in
    let s = head-shape side h x.reads.0 in
    let fs = fields_of h in
    let few = take 65 fs in
    let back = drop 65 fs in
    let all : All IsField few = All-take IsField 65 fs s.each in
    let some : 65 ≤ length fs = x.many in
    let count : length few + 0 ≡ 65 = omega (arith, length-take-le 65 fs some) in
    let top = print_blank s.blank ++ (s.line ++ (print_end s.end ++ flat_map print_field few)) in
    let end = before-end (last_of h) in
    let front_of : x.front ≡ top ++ (flat_map print_field back ++ end.0) =
    snoc-inj x.front (top ++ (flat_map print_field back ++ end.0)) 10
    (x.reads.1 ∙ append-nil (print_head h) ∙ ap print_head (sym (same-fields h)) ∙ s.prints fs (last_of h)
    ∙ ap (λ (t : List Field). print_blank s.blank ++ (s.line ++ (print_end s.end ++ (flat_map print_field t ++ print_end (last_of h))))) (sym (take-append-drop 65 fs))
    ∙ ap (λ (t : List ℕ). print_blank s.blank ++ (s.line ++ (print_end s.end ++ (t ++ print_end (last_of h))))) (flat_map-append print_field few back)
    ∙ ap (λ (t : List ℕ). print_blank s.blank ++ (s.line ++ (print_end s.end ++ ((flat_map print_field few ++ flat_map print_field back) ++ t)))) end.1
    ∙ regroup (print_blank s.blank) s.line (print_end s.end) (flat_map print_field few) (flat_map print_field back) end.0) in
    let over = flat_map print_field back ++ end.0 in
    let part_is : part ≡ top ++ (over ++ x.rest) = x.parts ∙ ap (λ (t : List ℕ). t ++ x.rest) front_of ∙ append_assoc top over x.rest in
    let after = (over ++ x.rest) ++ more in
    let bytes_is : bytes ≡ top ++ after = split ∙ ap (λ (t : List ℕ). t ++ more) part_is ∙ append_assoc top (over ++ x.rest) more in
    let lines : head_lines bytes ≡ top =
    ap head_lines bytes_is ∙ ap head_lines (spread (print_blank s.blank) s.line (print_end s.end) (flat_map print_field few) after)
    ∙ lines-of-head side h s few 0 after all count
    ∙ ap (λ (t : List ℕ). print_blank s.blank ++ (s.line ++ (print_end s.end ++ (flat_map print_field few ++ t)))) (lines-zero after)
    ∙ ap (λ (t : List ℕ). print_blank s.blank ++ (s.line ++ (print_end s.end ++ t))) (append-nil (flat_map print_field few)) in
    let cut : part ≡ take HEAD_LIMIT top = is_part ∙ ap (λ (t : List ℕ). take HEAD_LIMIT t) lines in
    let short : length part ≤ length top = subst (λ (t : List ℕ). length t ≤ length top) (sym cut) (take-short HEAD_LIMIT top) in
    let none : over ++ x.rest ≡ [] = no-more top (over ++ x.rest) (subst (λ (t : List ℕ). length t ≤ length top) part_is short) in
    let whole : part ≡ top = part_is ∙ ap (λ (t : List ℕ). top ++ t) none ∙ append-nil top in
    inl (
      10 ∷ [],
      with_fields h few lf,
      (
        s.again few lf all,
        ap (λ (t : List ℕ). t ++ 10 ∷ []) whole ∙ close (print_blank s.blank) s.line (print_end s.end) (flat_map print_field few)
            ∙ sym (s.prints few lf) ∙ sym (append-nil (print_head (with_fields h few lf))),
      ),
    )
  where
    regroup : (a b c d e f : List ℕ) → a ++ (b ++ (c ++ ((d ++ e) ++ (f ++ 10 ∷ [])))) ≡ (a ++ (b ++ (c ++ d)) ++ (e ++ f)) ++ 10 ∷ []
    regroup a b c d e f = simp append_assoc

    spread : (a b c d e : List ℕ) → (a ++ (b ++ (c ++ d))) ++ e ≡ a ++ (b ++ (c ++ (d ++ e)))
    spread a b c d e = simp append_assoc

    close : (a b c d : List ℕ) → (a ++ (b ++ (c ++ d))) ++ 10 ∷ [] ≡ a ++ (b ++ (c ++ (d ++ 10 ∷ [])))
    close a b c d = simp append_assoc

    take-short : (n : ℕ) (l : List ℕ) → length (take n l) ≤ length l
    take-short n l = omega (arith, length-take n l)

    no-more : (a b : List ℕ) → length (a ++ b) ≤ length a → b ≡ []
    no-more a [] le = refl
    no-more a (y ∷ b) le = absurd (omega (arith, length-append a (y ∷ b)))
