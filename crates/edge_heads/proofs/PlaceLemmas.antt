-- How far bytes are known to begin a head.
use Rattle.std.proofs.Common.{◌≡◌, ℕ, zero, suc, ◌+◌, ◌-◌, ◌<◌, ◌≤◌, ◌≢◌, ◌==◌, ◌||◌, ◌⊎◌, Bool, true, false, not, if◌then◌else◌, List, [], ◌∷◌, ◌++◌, length, get_or, take, drop, refl, sym, ap, ◌∙◌, subst, arith, append_assoc, append-nil, add-one, flat_map, Option, None, Some, inl, inr, All, length-append, length-take, length-drop}
use Rattle.std.specs.List.{list_any}
use Rattle.std.proofs.lemmas.Bool.{eqb-true, eq-eqb}
use Rattle.std.proofs.Math.Seq.{drop-cons, take-append_seam}
use Rattle.std.proofs.lemmas.List.{take-append-drop, take_all}
use Rattle.std.proofs.lemmas.List.Elements.{All-head, All-tail, All-nil, All-cons, All-append, All-push, All-take}
use Rattle.std.proofs.lemmas.Grind.{flat_map-append}
use Rattle.std.proofs.lemmas.Str.Ascii.{IsAscii-cons, IsAscii-nil}
use Rattle.std.proofs.lemmas.Str.{IsUtf8-from_ascii}
use Rattle.std.specs.Char.{is_ascii_digit}
use Rattle.httparse.specs.Grammar.{is_token_byte, is_uri_byte, is_value_byte, AllPass, IsToken, LineEnd, crlf, lf, print_end, print_blank, print_version, Field, IsField, print_field, print_section, RequestHead, ResponseHead}
use Rattle.httparse.specs.Pieces.{Stops, is_newline}
use Rattle.httparse.proofs.GrammarLemmas.{print_request-append, print_response-append}
use Rattle.httparse.proofs.OpenLemmas.{letter_is_token}
use Rattle.edge_heads.specs.declared.TheConstants.{HEAD_LIMIT, HEADER_LIMIT, LINE_LIMIT}
use Rattle.edge_heads.specs.declared.values.Side.{Side}
use Rattle.edge_heads.specs.declared.values.Side.TheVariants.{Requests, Responses}
use Rattle.edge_heads.specs.declared.places.Place.{Place}
use Rattle.edge_heads.specs.declared.places.Place.TheVariants as place
use Rattle.edge_heads.specs.Heads.{Head, asks, answers, print_head, fields_of, IsHeadOf, ReadsHead, HasNoHead, CanBecomeHead, is_target_byte, EndsInTarget, IsBegun, IsHeadBegun, lines_part, lines_left, head_lines, head_lines_left, head_part, HasAllLines}
use Rattle.edge_heads.specs.Places.{IsFront, IsAt, IsKnown, asks_for_method, place_after, place_on, place_behind, is_no_newline, IsLineStart}
use Rattle.edge_heads.proofs.Lines.{lines-other, lines-feed, lines-none, left-none, left-other, head_left-newline, head_left-begins, lines-zero}
use Rattle.edge_heads.proofs.Shapes.{Passes, Shape, head-shape, same-fields, last_of, with_fields, lines-of-head}

-- ---- tests, and the last of bytes

by-test : (t : Bool) (P : Option Place → Type 0) (a b : Option Place) → (t ≡ true → P a) → (t ≡ false → P b) → P (if t then a else b)
by-test true P a b f g = f refl
by-test false P a b f g = g refl

other : (x n : ℕ) → (x == n) ≡ false → x ≢ n
other x n e same = absurd (let t : true ≡ false = sym (eq-eqb x n same) ∙ e in cc)

-- a byte that passes isn't one that fails
unlike : (test : ℕ → Bool) (x n : ℕ) → test n ≡ false → test x ≡ true → x ≢ n
unlike test x n fails passes same = absurd (let t : true ≡ false = sym passes ∙ ap test same ∙ fails in cc)

snoc-last : (a b : List ℕ) (x y : ℕ) → a ++ x ∷ [] ≡ b ++ y ∷ [] → (a ≡ b) × (x ≡ y)
snoc-last [] [] x y e = (refl, cc)
snoc-last [] (d ∷ []) x y e = absurd (cc)
snoc-last [] (d ∷ (z ∷ b)) x y e = absurd (cc)
snoc-last (c ∷ []) [] x y e = absurd (cc)
snoc-last (c ∷ (z ∷ a)) [] x y e = absurd (cc)
snoc-last (c ∷ a) (d ∷ b) x y e =
    let tails : a ++ x ∷ [] ≡ b ++ y ∷ [] = cc in
    let first : c ≡ d = cc in
    let r = snoc-last a b x y tails in
    (λ i. first i ∷ r.0 i, r.1)

snoc-view : (c : ℕ) (a : List ℕ) → (b : List ℕ) × (x : ℕ) × (c ∷ a ≡ b ++ x ∷ [])
snoc-view c [] = ([], c, refl)
snoc-view c (d ∷ a) = let r = snoc-view d a in (c ∷ r.0, r.1, ap (λ (t : List ℕ). c ∷ t) r.2)

cut : (a b c d : List ℕ) → a ++ b ≡ c ++ d → ((y : List ℕ) × (c ≡ a ++ y) × (b ≡ y ++ d)) ⊎ ((y : List ℕ) × (a ≡ c ++ y) × (d ≡ y ++ b))
cut [] b c d e = inl (c, refl, e)
cut (x ∷ a) b [] d e = inr (x ∷ a, refl, sym e)
cut (x ∷ a) b (z ∷ c) d e =
    let heads : x ≡ z = cc in
    let tails : a ++ b ≡ c ++ d = cc in
    elim (cut a b c d tails) [
      | inl r ↦ inl (r.0, (λ i. sym heads i ∷ r.1 i), r.2)
      | inr r ↦ inr (r.0, (λ i. heads i ∷ r.1 i), r.2)
    ]

passes-right : (test : ℕ → Bool) (a b : List ℕ) → AllPass test (a ++ b) → AllPass test b
passes-right test [] b all = all
passes-right test (x ∷ a) b all = passes-right test a b (All-tail (λ b. test b ≡ true) x (a ++ b) all)

passes-left : (test : ℕ → Bool) (a b : List ℕ) → AllPass test (a ++ b) → AllPass test a
passes-left test [] b all = All-nil (λ b. test b ≡ true)
passes-left test (x ∷ a) b all =
    All-cons (λ b. test b ≡ true) x a (All-head (λ b. test b ≡ true) x (a ++ b) all) (passes-left test a b (All-tail (λ b. test b ≡ true) x (a ++ b) all))

stops-or-passes : (test : ℕ → Bool) (b : List ℕ) → Stops test b → AllPass test b → ⊥
stops-or-passes test [] s all = s
stops-or-passes test (x ∷ b) s all = absurd (let t : true ≡ false = sym (All-head (λ b. test b ≡ true) x b all) ∙ s in cc)

-- ---- all bytes are of the head's lines

choose-whole : (t : Bool) (c : ℕ) (b x y : List ℕ) (n m : ℕ) → ((n ≡ 0 → ⊥) → x ≡ b) → ((m ≡ 0 → ⊥) → y ≡ b) → ((if t then n else m) ≡ 0 → ⊥)
    → (c ∷ (if t then x else y)) ≡ c ∷ b
choose-whole true c b x y n m f g left = ap (λ (t : List ℕ). c ∷ t) (f left)
choose-whole false c b x y n m f g left = ap (λ (t : List ℕ). c ∷ t) (g left)

lines-whole : (n : ℕ) (b : List ℕ) → (lines_left n b ≡ 0 → ⊥) → lines_part n b ≡ b
unfolding lines_part lines_left
lines-whole zero b left = absurd (left refl)
lines-whole (suc n) [] left = refl
lines-whole (suc n) (c ∷ b) left =
    choose-whole (c == 10) c b (lines_part n b) (lines_part (suc n) b) (lines_left n b) (lines_left (suc n) b) (lines-whole n b) (lines-whole (suc n) b) left

choose-newline : (t : Bool) (c : ℕ) (b x y : List ℕ) (n m : ℕ) → ((n ≡ 0 → ⊥) → x ≡ b) → ((m ≡ 0 → ⊥) → y ≡ c ∷ b) → ((if t then n else m) ≡ 0 → ⊥)
    → (if t then c ∷ x else y) ≡ c ∷ b
choose-newline true c b x y n m f g left = ap (λ (t : List ℕ). c ∷ t) (f left)
choose-newline false c b x y n m f g left = g left

head-whole : (b : List ℕ) → (HasAllLines b → ⊥) → head_lines b ≡ b
unfolding head_lines head_lines_left
head-whole [] left = refl
head-whole (c ∷ b) left =
    choose-newline (is_newline c) c b (head_lines b) (lines_part LINE_LIMIT (c ∷ b)) (head_lines_left b) (lines_left LINE_LIMIT (c ∷ b)) (head-whole b)
    (lines-whole LINE_LIMIT (c ∷ b)) left

part-whole : (b : List ℕ) → length b < HEAD_LIMIT → (HasAllLines b → ⊥) → head_part b ≡ b
unfolding head_part
part-whole b short left = ap (λ (t : List ℕ). take HEAD_LIMIT t) (head-whole b left) ∙ take_all HEAD_LIMIT b (omega arith)

pub begun-short : (side : Side) (b : List ℕ) → IsHeadBegun side b → length b < HEAD_LIMIT
unfolding head_part
begun-short side b x =
    let e : head_part b ≡ take HEAD_LIMIT b = ap (λ (t : List ℕ). take HEAD_LIMIT t) (head-whole b x.lines) in
    let n = length-take HEAD_LIMIT b in
    let m : length (take HEAD_LIMIT b) < HEAD_LIMIT = subst (λ (t : List ℕ). length t < HEAD_LIMIT) e x.short in
    omega arith

-- what begins a head is so as a whole
begun-whole : (side : Side) (b : List ℕ) → IsHeadBegun side b → IsBegun side b
begun-whole side b x = subst (λ (t : List ℕ). IsBegun side t) (part-whole b (begun-short side b x) x.lines) x.begun

begun-of : (side : Side) (b : List ℕ) → HasNoHead side b → CanBecomeHead side b → length b < HEAD_LIMIT → (HasAllLines b → ⊥) → IsHeadBegun side b
begun-of side b none can short left =
    let e = part-whole b short left in
    let x : IsBegun side b = record { none = none; can = can } in
    record { begun = subst (λ (t : List ℕ). IsBegun side t) (sym e) x; short = subst (λ (t : List ℕ). length t < HEAD_LIMIT) (sym e) short; lines = left }

-- ---- one more byte that ends no line

lines_left-other : (n : ℕ) (b : List ℕ) (x : ℕ) → x ≢ 10 → lines_left n (b ++ x ∷ []) ≡ lines_left n b
unfolding lines_left
lines_left-other zero b x ne = refl
lines_left-other (suc n) [] x ne = left-other n x [] ne
lines_left-other (suc n) (c ∷ b) x ne = λ i. if c == 10 then lines_left-other n b x ne i else lines_left-other (suc n) b x ne i

newline-or-not : (t : Bool) → (t ≡ true) ⊎ (t ≡ false)
newline-or-not true = inl refl
newline-or-not false = inr refl

head_left-other : (b : List ℕ) (x : ℕ) → x ≢ 10 → head_lines_left (b ++ x ∷ []) ≡ head_lines_left b
unfolding head_lines_left
head_left-other [] x ne = elim (newline-or-not (is_newline x)) [
  | inl e ↦ head_left-newline x [] e
  | inr e ↦ head_left-begins x [] e ∙ left-other 65 x [] ne ∙ left-none 66
]
head_left-other (c ∷ b) x ne = λ i. if is_newline c then head_left-other b x ne i else lines_left-other LINE_LIMIT (c ∷ b) x ne i

-- ---- the text of a head

head-text : (side : Side) (h : Head) (s : Shape side h)
    → print_head h ≡ print_blank s.blank ++ (s.line ++ (print_end s.end ++ (flat_map print_field (fields_of h) ++ print_end (last_of h))))
head-text side h s = ap print_head (sym (same-fields h)) ∙ s.prints (fields_of h) (last_of h)

end-feed : (end : LineEnd) → (front : List ℕ) × (print_end end ≡ front ++ 10 ∷ [])
end-feed crlf = (13 ∷ [], refl)
end-feed lf = ([], refl)

-- a head ends with a line feed
head-feed : (side : Side) (h : Head) → IsHeadOf side h → (t : List ℕ) × (print_head h ≡ t ++ 10 ∷ [])
head-feed side h is =
    let s = head-shape side h is in
    let end = end-feed (last_of h) in
    let fields = flat_map print_field (fields_of h) in (
      print_blank s.blank ++ (s.line ++ (print_end s.end ++ (fields ++ end.0))),
      head-text side h s ∙ ap (λ (t : List ℕ). print_blank s.blank ++ (s.line ++ (print_end s.end ++ (fields ++ t)))) end.1
          ∙ regroup (print_blank s.blank) s.line (print_end s.end) fields end.0,
    )
  where
    regroup : (a b c d e : List ℕ) → a ++ (b ++ (c ++ (d ++ (e ++ 10 ∷ [])))) ≡ (a ++ (b ++ (c ++ (d ++ e)))) ++ 10 ∷ []
    regroup a b c d e = simp append_assoc

-- no head begins the bytes with one more that is no line feed
none-longer : (side : Side) (b : List ℕ) (x : ℕ) → x ≢ 10 → HasNoHead side b → HasNoHead side (b ++ x ∷ [])
none-longer side b x ne none h rest reads few =
    let feed = head-feed side h reads.0 in
    let text = print_head h in
    elim (cut b (x ∷ []) text rest reads.1) [
      | inl r ↦ ends feed r.0 r.1 r.2
      | inr r ↦ none h r.0 (reads.0, r.1) few
    ]
  where
    ends : ((t : List ℕ) × (print_head h ≡ t ++ 10 ∷ [])) → (y : List ℕ) → print_head h ≡ b ++ y → x ∷ [] ≡ y ++ rest → ⊥
    ends feed [] e last = none h [] (reads.0, sym (append-nil b) ∙ sym e ∙ sym (append-nil (print_head h))) few
    ends feed (z ∷ []) e last =
        let same : x ≡ z = cc in
        let r = snoc-last b feed.0 z 10 (sym e ∙ feed.1) in
        ne (same ∙ r.1)
    ends feed (z ∷ (w ∷ y)) e last = absurd (cc)

grown : (side : Side) (b : List ℕ) (x : ℕ) → x ≢ 10 → length (b ++ x ∷ []) < HEAD_LIMIT → IsHeadBegun side b → CanBecomeHead side (b ++ x ∷ [])
    → IsHeadBegun side (b ++ x ∷ [])
grown side b x ne short begun can =
    begun-of side (b ++ x ∷ []) (none-longer side b x ne (begun-whole side b begun).none) can short (λ all. begun.lines (sym (head_left-other b x ne) ∙ all))

-- ---- a head can come of the bytes

abbrev Comes : Side → List ℕ → Type 0
Comes side b = (more : List ℕ) × (head : Head) × ReadsHead side (b ++ more) head []

-- it can come of what stands before the last of them
comes-front : (side : Side) (a y : List ℕ) → Comes side (a ++ y) → Comes side a
comes-front side a y x = (y ++ x.0, x.1, (x.2.0, sym (append_assoc a y x.0) ∙ x.2.1))

abbrev some_request : List LineEnd → List ℕ → RequestHead
some_request blank method = record { blank = blank; method = method; target = 47 ∷ []; minor = 1; line_end = lf; fields = []; last = lf }

comes-method : (ends : List LineEnd) (method : List ℕ) → IsToken method → Comes Requests (print_blank ends ++ method)
comes-method ends method token =
    let more : List ℕ = 32 ∷ 47 ∷ 32 ∷ (print_version 1 ++ (print_end lf ++ (print_section [] lf ++ []))) in
    let h = some_request ends method in (
      more,
      asks h,
      (
        record {
          method = token;
          target = (omega arith, All-cons (λ b. is_uri_byte b ≡ true) 47 [] refl (All-nil (λ b. is_uri_byte b ≡ true)));
          target_text = IsUtf8-from_ascii _ (IsAscii-cons 47 [] (omega arith) IsAscii-nil);
          minor = omega arith;
          fields = All-nil IsField;
        },
        append_assoc (print_blank ends) method more ∙ sym (print_request-append h []),
      ),
    )

abbrev some_response : List LineEnd → ResponseHead
some_response blank = record { blank = blank; minor = 1; digits = 50 ∷ 48 ∷ 48 ∷ []; reason = None; line_end = lf; fields = []; last = lf }

comes-blank : (side : Side) (ends : List LineEnd) → Comes side (print_blank ends)
comes-blank Requests ends =
    comes-front Requests (print_blank ends) (65 ∷ [])
    (comes-method ends (65 ∷ []) (omega arith, All-cons (λ b. is_token_byte b ≡ true) 65 [] letter_is_token (All-nil (λ b. is_token_byte b ≡ true))))
comes-blank Responses ends =
    let P : ℕ → Type 0 = λ b. is_ascii_digit b ≡ true in
    let h = some_response ends in (
      _,
      answers h,
      (
        record {
          minor = omega arith;
          digits = (refl, All-cons P 50 (48 ∷ 48 ∷ []) refl (All-cons P 48 (48 ∷ []) refl (All-cons P 48 [] refl (All-nil P))));
          reason = All-nil (λ b. is_value_byte b ≡ true);
          fields = All-nil IsField;
        },
        sym (print_response-append h []),
      ),
    )

-- behind a front comes a field line, and this is a part of it
comes-field : (side : Side) (front : List ℕ) (f : Field) (b y : List ℕ) → IsFront side front → IsField f → front ++ print_field f ≡ b ++ y → Comes side b
comes-field side front f b y is field e =
    let r = is (f ∷ []) lf (All-cons IsField f [] field (All-nil IsField)) in (
      y ++ 10 ∷ [],
      r.0,
      (
        r.1,
        sym (append_assoc b y (10 ∷ [])) ∙ ap (λ (t : List ℕ). t ++ 10 ∷ []) (sym e) ∙ append_assoc front (print_field f) (10 ∷ [])
            ∙ ap (λ (t : List ℕ). front ++ (t ++ 10 ∷ [])) (sym (append-nil (print_field f))) ∙ sym r.2 ∙ sym (append-nil (print_head r.0)),
      ),
    )

-- ---- empty lines

blank-all : (ends : List LineEnd) → AllPass is_newline (print_blank ends)
blank-all [] = All-nil (λ b. is_newline b ≡ true)
blank-all (crlf ∷ ends) =
    All-cons (λ b. is_newline b ≡ true) 13 (10 ∷ print_blank ends) refl (All-cons (λ b. is_newline b ≡ true) 10 (print_blank ends) refl (blank-all ends))
blank-all (lf ∷ ends) = All-cons (λ b. is_newline b ≡ true) 10 (print_blank ends) refl (blank-all ends)

left-newlines : (b : List ℕ) → AllPass is_newline b → head_lines_left b ≡ LINE_LIMIT
unfolding head_lines_left
left-newlines [] all = refl
left-newlines (x ∷ b) all =
    head_left-newline x b (All-head (λ b. is_newline b ≡ true) x b all) ∙ left-newlines b (All-tail (λ b. is_newline b ≡ true) x b all)

none-newlines : (side : Side) (b : List ℕ) → AllPass is_newline b → HasNoHead side b
none-newlines side b all h rest reads few =
    let s = head-shape side h reads.0 in
    let after = print_end s.end ++ (flat_map print_field (fields_of h) ++ print_end (last_of h)) in
    let e : b ≡ print_blank s.blank ++ (s.line ++ (after ++ rest)) =
    reads.1 ∙ ap (λ (t : List ℕ). t ++ rest) (head-text side h s) ∙ append_assoc (print_blank s.blank) (s.line ++ after) rest
    ∙ ap (λ (t : List ℕ). print_blank s.blank ++ t) (append_assoc s.line after rest) in
    stops-or-passes is_newline (s.line ++ (after ++ rest)) (s.begins (after ++ rest))
    (passes-right is_newline (print_blank s.blank) (s.line ++ (after ++ rest)) (subst (λ (t : List ℕ). AllPass is_newline t) e all))

newlines-begun : (side : Side) (b : List ℕ) → AllPass is_newline b → length b < HEAD_LIMIT → Comes side b → IsHeadBegun side b
newlines-begun side b all short comes =
    begun-of side b (none-newlines side b all) (inl comes) short (λ none. let n = left-newlines b all in let m : head_lines_left b ≡ 0 = none in absurd (omega arith))

blank-more : (ends : List LineEnd) (e : LineEnd) → print_blank (ends ++ e ∷ []) ≡ print_blank ends ++ print_end e
blank-more ends e = flat_map-append print_end ends (e ∷ []) ∙ ap (λ (t : List ℕ). print_blank ends ++ t) (append-nil (print_end e))

pub blank-known : (side : Side) (b : List ℕ) (ends : List LineEnd) → length b < HEAD_LIMIT → b ≡ print_blank ends → IsKnown side (Some place.Blank) b
blank-known side b ends short e = (
  newlines-begun side b (subst (λ (t : List ℕ). AllPass is_newline t) (sym e) (blank-all ends)) short (subst (λ (t : List ℕ). Comes side t) (sym e) (comes-blank side ends)),
  (ends, e),
)

return-known : (side : Side) (b : List ℕ) (ends : List LineEnd) → length b < HEAD_LIMIT → b ≡ print_blank ends ++ 13 ∷ [] → IsKnown side (Some place.Return) b
return-known side b ends short e =
    let all = All-push (λ b. is_newline b ≡ true) (print_blank ends) 13 (blank-all ends) refl in
    let whole : print_blank (ends ++ crlf ∷ []) ≡ (print_blank ends ++ 13 ∷ []) ++ 10 ∷ [] = blank-more ends crlf ∙ sym (append_assoc (print_blank ends) (13 ∷ []) (10 ∷ [])) in
    let comes = comes-front side (print_blank ends ++ 13 ∷ []) (10 ∷ []) (subst (λ (t : List ℕ). Comes side t) whole (comes-blank side (ends ++ crlf ∷ []))) in (
      newlines-begun side b (subst (λ (t : List ℕ). AllPass is_newline t) (sym e) all) short (subst (λ (t : List ℕ). Comes side t) (sym e) comes),
      (ends, e),
    )

-- ---- one more byte

abbrev Step : Side → Place → List ℕ → ℕ → Type 0
Step side p b x = length (b ++ x ∷ []) < HEAD_LIMIT → IsHeadBegun side b → IsAt side p b → IsKnown side (place_after side p x) (b ++ x ∷ [])

method-known : (b : List ℕ) (x : ℕ) (ends : List LineEnd) (method : List ℕ) → length (b ++ x ∷ []) < HEAD_LIMIT → IsHeadBegun Requests b
    → is_token_byte x ≡ true → AllPass is_token_byte method → b ≡ print_blank ends ++ method → IsKnown Requests (Some place.Method) (b ++ x ∷ [])
unfolding is_token_byte
method-known b x ends method short begun token all e =
    let longer : IsToken (method ++ x ∷ []) = (omega (arith, length-append method (x ∷ [])), All-push (λ b. is_token_byte b ≡ true) method x all token) in
    let same : b ++ x ∷ [] ≡ print_blank ends ++ (method ++ x ∷ []) = ap (λ (t : List ℕ). t ++ x ∷ []) e ∙ append_assoc (print_blank ends) method (x ∷ []) in
    let comes = subst (λ (t : List ℕ). Comes Requests t) (sym same) (comes-method ends (method ++ x ∷ []) longer) in
    (grown Requests b x (unlike is_token_byte x 10 refl token) short begun (inl comes), (refl, ends, method ++ x ∷ [], longer, same))

step-blank : (side : Side) (b : List ℕ) (x : ℕ) → Step side place.Blank b x
step-blank side b x short begun at =
    by-test (x == 10) (λ o. IsKnown side o (b ++ x ∷ [])) (Some place.Blank) _
    (λ t. blank-known side (b ++ x ∷ []) (at.0 ++ lf ∷ []) short (ap (λ (n : ℕ). b ++ n ∷ []) (eqb-true x 10 t) ∙ ap (λ (t : List ℕ). t ++ 10 ∷ []) at.1 ∙ sym (blank-more at.0 lf)))
    (λ no. by-test (x == 13) (λ o. IsKnown side o (b ++ x ∷ [])) (Some place.Return) _
    (λ t. return-known side (b ++ x ∷ []) at.0 short (ap (λ (n : ℕ). b ++ n ∷ []) (eqb-true x 13 t) ∙ ap (λ (t : List ℕ). t ++ 13 ∷ []) at.1))
    (λ neither. method side at.0 at.1 begun))
  where
    method : (side : Side) (ends : List LineEnd) → b ≡ print_blank ends → IsHeadBegun side b
        → IsKnown side (if asks_for_method side x then Some place.Method else None) (b ++ x ∷ [])
    method Responses ends e begun = tt
    method Requests ends e begun =
        by-test (is_token_byte x) (λ o. IsKnown Requests o (b ++ x ∷ [])) (Some place.Method) None
        (λ token. method-known b x ends [] short begun token (All-nil (λ b. is_token_byte b ≡ true)) (e ∙ sym (append-nil (print_blank ends)))) (λ no. tt)

step-return : (side : Side) (b : List ℕ) (x : ℕ) → Step side place.Return b x
step-return side b x short begun at =
    by-test (x == 10) (λ o. IsKnown side o (b ++ x ∷ [])) (Some place.Blank) None
    (λ t. blank-known side (b ++ x ∷ []) (at.0 ++ crlf ∷ []) short
    (ap (λ (n : ℕ). b ++ n ∷ []) (eqb-true x 10 t) ∙ ap (λ (t : List ℕ). t ++ 10 ∷ []) at.1 ∙ append_assoc (print_blank at.0) (13 ∷ []) (10 ∷ []) ∙ sym (blank-more at.0 crlf)))
    (λ no. tt)

target-longer : (side : Side) (b : List ℕ) (x : ℕ) → is_target_byte x ≡ true → EndsInTarget side b → EndsInTarget side (b ++ x ∷ [])
target-longer Responses b x pass at = at
target-longer Requests b x pass at = (
  at.0,
  at.1,
  at.2 ++ x ∷ [],
  at.3,
  All-push (λ b. is_target_byte b ≡ true) at.2 x at.4 pass,
  ap (λ (t : List ℕ). t ++ x ∷ []) at.5 ∙ append_assoc (print_blank at.0 ++ at.1) (32 ∷ at.2) (x ∷ []),
)

target-known : (side : Side) (b : List ℕ) (x : ℕ) → length (b ++ x ∷ []) < HEAD_LIMIT → IsHeadBegun side b → x ≢ 10 → EndsInTarget side (b ++ x ∷ [])
    → IsKnown side (Some place.Target) (b ++ x ∷ [])
target-known side b x short begun ne at = (grown side b x ne short begun (inr at), at)

step-method : (side : Side) (b : List ℕ) (x : ℕ) → Step side place.Method b x
step-method Responses b x short begun at = absurd (let e : Responses ≡ Requests = at.0 in cc)
step-method Requests b x short begun at =
    by-test (is_token_byte x) (λ o. IsKnown Requests o (b ++ x ∷ [])) (Some place.Method) _
    (λ token. method-known b x at.1 at.2 short begun token at.3.1 at.4)
    (λ no. by-test (x == 32) (λ o. IsKnown Requests o (b ++ x ∷ [])) (Some place.Target) None
    (λ t. let blank : x ≡ 32 = eqb-true x 32 t in
    target-known Requests b x short begun (λ e. absurd (cc)) (
      at.1,
      at.2,
      [],
      at.3,
      All-nil (λ b. is_target_byte b ≡ true),
      ap (λ (n : ℕ). b ++ n ∷ []) blank ∙ ap (λ (t : List ℕ). t ++ 32 ∷ []) at.4,
    ))
    (λ neither. tt))

step-target : (side : Side) (b : List ℕ) (x : ℕ) → Step side place.Target b x
step-target side b x short begun at =
    by-test (is_target_byte x) (λ o. IsKnown side o (b ++ x ∷ [])) (Some place.Target) None
    (λ pass. target-known side b x short begun (unlike is_target_byte x 10 refl pass) (target-longer side b x pass at)) (λ no. tt)

name-known : (side : Side) (b : List ℕ) (x : ℕ) (front name : List ℕ) → length (b ++ x ∷ []) < HEAD_LIMIT → IsHeadBegun side b → IsFront side front
    → is_token_byte x ≡ true → AllPass is_token_byte name → b ≡ front ++ name → IsKnown side (Some place.Name) (b ++ x ∷ [])
unfolding is_token_byte
name-known side b x front name short begun is token all e =
    let long = name ++ x ∷ [] in
    let longer : IsToken long = (omega (arith, length-append name (x ∷ [])), All-push (λ b. is_token_byte b ≡ true) name x all token) in
    let same : b ++ x ∷ [] ≡ front ++ long = ap (λ (t : List ℕ). t ++ x ∷ []) e ∙ append_assoc front name (x ∷ []) in
    let f : Field = record { name = long; raw = []; end = lf } in
    let comes =
    comes-field side front f (b ++ x ∷ []) (58 ∷ 10 ∷ []) is (record { name = longer; raw = All-nil (λ b. is_value_byte b ≡ true) })
    (regroup front long ∙ ap (λ (t : List ℕ). t ++ 58 ∷ 10 ∷ []) (sym same)) in
    (grown side b x (unlike is_token_byte x 10 refl token) short begun (inl comes), (front, long, is, longer, same))
  where
    regroup : (a n : List ℕ) → a ++ ((n ++ 58 ∷ []) ++ 10 ∷ []) ≡ (a ++ n) ++ 58 ∷ 10 ∷ []
    regroup a n = ap (λ (t : List ℕ). a ++ t) (append_assoc n (58 ∷ []) (10 ∷ [])) ∙ sym (append_assoc a n (58 ∷ 10 ∷ []))

value-known : (side : Side) (b : List ℕ) (x : ℕ) (front name raw : List ℕ) → length (b ++ x ∷ []) < HEAD_LIMIT → IsHeadBegun side b → IsFront side front
    → IsToken name → AllPass is_value_byte raw → x ≢ 10 → b ++ x ∷ [] ≡ front ++ (name ++ 58 ∷ raw) → IsKnown side (Some place.Value) (b ++ x ∷ [])
value-known side b x front name raw short begun is token all ne same =
    let f : Field = record { name = name; raw = raw; end = lf } in
    let comes =
    comes-field side front f (b ++ x ∷ []) (10 ∷ []) is (record { name = token; raw = all })
    (sym (append_assoc front (name ++ 58 ∷ raw) (10 ∷ [])) ∙ ap (λ (t : List ℕ). t ++ 10 ∷ []) (sym same)) in
    (grown side b x ne short begun (inl comes), (front, name, raw, is, token, all, same))

ending-known : (side : Side) (b : List ℕ) (x : ℕ) (front name raw : List ℕ) → length (b ++ x ∷ []) < HEAD_LIMIT → IsHeadBegun side b → IsFront side front
    → IsToken name → AllPass is_value_byte raw → x ≢ 10 → b ++ x ∷ [] ≡ front ++ (name ++ 58 ∷ (raw ++ 13 ∷ [])) → IsKnown side (Some place.Ending) (b ++ x ∷ [])
ending-known side b x front name raw short begun is token all ne same =
    let f : Field = record { name = name; raw = raw; end = crlf } in
    let comes =
    comes-field side front f (b ++ x ∷ []) (10 ∷ []) is (record { name = token; raw = all })
    (regroup front name raw ∙ ap (λ (t : List ℕ). t ++ 10 ∷ []) (sym same)) in
    (grown side b x ne short begun (inl comes), (front, name, raw, is, token, all, same))
  where
    regroup : (a n r : List ℕ) → a ++ ((n ++ 58 ∷ r) ++ 13 ∷ 10 ∷ []) ≡ (a ++ (n ++ 58 ∷ (r ++ 13 ∷ []))) ++ 10 ∷ []
    regroup a n r =
        ap (λ (t : List ℕ). a ++ t) (sym (append_assoc (n ++ 58 ∷ r) (13 ∷ []) (10 ∷ [])) ∙ ap (λ (t : List ℕ). t ++ 10 ∷ []) (append_assoc n (58 ∷ r) (13 ∷ [])))
        ∙ sym (append_assoc a (n ++ 58 ∷ (r ++ 13 ∷ [])) (10 ∷ []))

step-line : (side : Side) (b : List ℕ) (x : ℕ) → Step side place.Line b x
step-line side b x short begun at =
    by-test (is_token_byte x) (λ o. IsKnown side o (b ++ x ∷ [])) (Some place.Name) None
    (λ token. name-known side b x b [] short begun at token (All-nil (λ b. is_token_byte b ≡ true)) (sym (append-nil b))) (λ no. tt)

step-name : (side : Side) (b : List ℕ) (x : ℕ) → Step side place.Name b x
step-name side b x short begun at =
    by-test (is_token_byte x) (λ o. IsKnown side o (b ++ x ∷ [])) (Some place.Name) _
    (λ token. name-known side b x at.0 at.1 short begun at.2 token at.3.1 at.4)
    (λ no. by-test (x == 58) (λ o. IsKnown side o (b ++ x ∷ [])) (Some place.Value) None
    (λ t. let colon : x ≡ 58 = eqb-true x 58 t in
    value-known side b x at.0 at.1 [] short begun at.2 at.3 (All-nil (λ b. is_value_byte b ≡ true)) (λ e. absurd (cc))
    (ap (λ (n : ℕ). b ++ n ∷ []) colon ∙ ap (λ (t : List ℕ). t ++ 58 ∷ []) at.4 ∙ append_assoc at.0 at.1 (58 ∷ [])))
    (λ neither. tt))

step-value : (side : Side) (b : List ℕ) (x : ℕ) → Step side place.Value b x
step-value side b x short begun at =
    by-test (is_value_byte x) (λ o. IsKnown side o (b ++ x ∷ [])) (Some place.Value) _
    (λ pass. value-known side b x at.0 at.1 (at.2 ++ x ∷ []) short begun at.3 at.4 (All-push (λ b. is_value_byte b ≡ true) at.2 x at.5 pass)
    (unlike is_value_byte x 10 refl pass) (ap (λ (t : List ℕ). t ++ x ∷ []) at.6 ∙ regroup at.0 at.1 at.2))
    (λ no. by-test (x == 13) (λ o. IsKnown side o (b ++ x ∷ [])) (Some place.Ending) None
    (λ t. let cr : x ≡ 13 = eqb-true x 13 t in
    ending-known side b x at.0 at.1 at.2 short begun at.3 at.4 at.5 (λ e. absurd (cc))
    (ap (λ (t : List ℕ). t ++ x ∷ []) at.6 ∙ regroup at.0 at.1 at.2 ∙ ap (λ (n : ℕ). at.0 ++ (at.1 ++ 58 ∷ (at.2 ++ n ∷ []))) cr))
    (λ neither. tt))
  where
    regroup : (a n r : List ℕ) → (a ++ (n ++ 58 ∷ r)) ++ x ∷ [] ≡ a ++ (n ++ 58 ∷ (r ++ x ∷ []))
    regroup a n r = append_assoc a (n ++ 58 ∷ r) (x ∷ []) ∙ ap (λ (t : List ℕ). a ++ t) (append_assoc n (58 ∷ r) (x ∷ []))

step : (side : Side) (p : Place) (b : List ℕ) (x : ℕ) → Step side p b x
step side place.Blank b x = step-blank side b x
step side place.Return b x = step-return side b x
step side place.Method b x = step-method side b x
step side place.Target b x = step-target side b x
step side place.Line b x = step-line side b x
step side place.Name b x = step-name side b x
step side place.Value b x = step-value side b x
step side place.Ending b x = λ short begun at. tt

step-on : (side : Side) (known : Option Place) (b : List ℕ) (x : ℕ) → length (b ++ x ∷ []) < HEAD_LIMIT → IsKnown side known b → IsKnown side (place_on side known x) (b ++ x ∷ [])
step-on side None b x short k = tt
step-on side (Some p) b x short k = step side p b x short k.0 k.1

-- some more bytes
pub known-behind : (side : Side) (known : Option Place) (b more : List ℕ) → length (b ++ more) < HEAD_LIMIT → IsKnown side known b
    → IsKnown side (place_behind side known more) (b ++ more)
known-behind side known b [] short k = subst (λ (t : List ℕ). IsKnown side known t) (sym (append-nil b)) k
known-behind side known b (x ∷ more) short k =
    let len = length-append b (x ∷ more) in
    let less : length (b ++ x ∷ []) < HEAD_LIMIT = omega (arith, length-append b (x ∷ [])) in
    let same : (b ++ x ∷ []) ++ more ≡ b ++ x ∷ more = append_assoc b (x ∷ []) more in
    subst (λ (t : List ℕ). IsKnown side (place_behind side (place_on side known x) more) t) same
    (known-behind side (place_on side known x) (b ++ x ∷ []) more (subst (λ (t : List ℕ). length t < HEAD_LIMIT) (sym same) short) (step-on side known b x less k))

-- ---- whole lines are a front

-- text without a line feed
abbrev Clean : List ℕ → Type 0
Clean a = All (λ (b : ℕ). b ≢ 10) a

passes-clean : (a : List ℕ) → Passes a → Clean a
passes-clean [] p = All-nil (λ b. b ≢ 10)
passes-clean (x ∷ a) p =
    let ne : x ≢ 10 = λ e. some x a p e in
    All-cons (λ b. b ≢ 10) x a ne (passes-clean a (record {
      part = λ n b. let e : x ∷ lines_part (suc n) (a ++ b) ≡ x ∷ (a ++ lines_part (suc n) b) = sym (lines-other n x (a ++ b) ne) ∙ p.part n b in cc;
    }))
  where
    some : (x : ℕ) (a : List ℕ) → Passes (x ∷ a) → x ≡ 10 → ⊥
    some x a p e =
        let cut : lines_part 1 (x ∷ (a ++ 48 ∷ [])) ≡ 10 ∷ [] = ap (λ (n : ℕ). lines_part 1 (n ∷ (a ++ 48 ∷ []))) e ∙ lines-feed 0 (a ++ 48 ∷ []) ∙ ap (λ (t : List ℕ). 10 ∷ t) (lines-zero (a ++ 48 ∷ [])) in
        let whole : lines_part 1 (x ∷ (a ++ 48 ∷ [])) ≡ x ∷ (a ++ lines_part 1 (48 ∷ [])) = p.part 0 (48 ∷ []) in
        let tail : lines_part 1 (48 ∷ []) ≡ 48 ∷ [] = lines-other 0 48 [] (λ e. absurd (cc)) ∙ ap (λ (t : List ℕ). 48 ∷ t) (lines-none 1) in
        let all : x ∷ (a ++ 48 ∷ []) ≡ 10 ∷ [] = sym (ap (λ (t : List ℕ). x ∷ (a ++ t)) tail) ∙ sym whole ∙ cut in
        let none : a ++ 48 ∷ [] ≡ [] = cc in
        absurd (omega (arith, ap length none, length-append a (48 ∷ [])))

-- text that ends with its one line feed has nothing behind a line feed
one-feed : (s y z : List ℕ) → Clean s → s ++ 10 ∷ [] ≡ (y ++ 10 ∷ []) ++ z → z ≡ []
one-feed [] [] z c e = cc
one-feed [] (d ∷ y) z c e = absurd (let n = ap length e in omega (arith, n, length-append (y ++ 10 ∷ []) z, length-append y (10 ∷ [])))
one-feed (x ∷ s) [] z c e = absurd (let same : x ≡ 10 = cc in All-head (λ b. b ≢ 10) x s c same)
one-feed (x ∷ s) (d ∷ y) z c e = one-feed s y z (All-tail (λ b. b ≢ 10) x s c) (let t : s ++ 10 ∷ [] ≡ (y ++ 10 ∷ []) ++ z = cc in t)

one-end : (s : List ℕ) (end : LineEnd) (y z : List ℕ) → Clean s → s ++ print_end end ≡ (y ++ 10 ∷ []) ++ z → z ≡ []
one-end s lf y z c e = one-feed s y z c e
one-end s crlf y z c e =
    one-feed (s ++ 13 ∷ []) y z (All-push (λ b. b ≢ 10) s 13 c (λ e. absurd (cc))) (append_assoc s (13 ∷ []) (10 ∷ []) ∙ e)

clean-test : (test : ℕ → Bool) → test 10 ≡ false → (a : List ℕ) → AllPass test a → Clean a
clean-test test fails [] all = All-nil (λ b. b ≢ 10)
clean-test test fails (x ∷ a) all =
    All-cons (λ b. b ≢ 10) x a (unlike test x 10 fails (All-head (λ b. test b ≡ true) x a all)) (clean-test test fails a (All-tail (λ b. test b ≡ true) x a all))

field-clean : (f : Field) → IsField f → Clean (f.name ++ 58 ∷ f.raw)
unfolding is_token_byte
field-clean f x =
    All-append (λ b. b ≢ 10) f.name (58 ∷ f.raw) (clean-test is_token_byte refl f.name x.name.1)
    (All-cons (λ b. b ≢ 10) 58 f.raw (λ e. absurd (cc)) (clean-test is_value_byte refl f.raw x.raw))

-- what follows text up to a line feed is nothing or ends with it
rest-feed : (y t w : List ℕ) → y ++ 10 ∷ [] ≡ t ++ w → (w ≡ []) ⊎ ((v : List ℕ) × (w ≡ v ++ 10 ∷ []))
rest-feed y t [] e = inl refl
rest-feed y t (c ∷ w) e =
    let v = snoc-view c w in
    let r = snoc-last y (t ++ v.0) 10 v.1 (e ∙ ap (λ (u : List ℕ). t ++ u) v.2 ∙ sym (append_assoc t v.0 (v.1 ∷ []))) in
    inr (v.0, v.2 ∙ ap (λ (n : ℕ). v.0 ++ n ∷ []) (sym r.1))

-- lines at the front of field lines and their end are some of the field lines, or all there is
fields-front : (fs : List Field) (last : LineEnd) (y r : List ℕ) → All IsField fs → flat_map print_field fs ++ print_end last ≡ (y ++ 10 ∷ []) ++ r
    → ((k : List Field) × All IsField k × (y ++ 10 ∷ [] ≡ flat_map print_field k)) ⊎ (r ≡ [])
fields-front [] last y r all e = inr (one-end [] last y r (All-nil (λ b. b ≢ 10)) e)
fields-front (f ∷ fs) last y r all e =
    let is = All-head IsField f fs all in
    let text = print_field f in
    let after = flat_map print_field fs ++ print_end last in
    let same : (y ++ 10 ∷ []) ++ r ≡ text ++ after = sym e ∙ append_assoc text (flat_map print_field fs) (print_end last) in
    elim (cut (y ++ 10 ∷ []) r text after same) [
      | inl x ↦
          let none : x.0 ≡ [] = one-end (f.name ++ 58 ∷ f.raw) f.end y x.0 (field-clean f is) x.1 in
          inl (
            f ∷ [],
            All-cons IsField f [] is (All-nil IsField),
            sym (append-nil (y ++ 10 ∷ [])) ∙ ap (λ (t : List ℕ). (y ++ 10 ∷ []) ++ t) (sym none) ∙ sym x.1 ∙ sym (append-nil text),
          )
      | inr x ↦ elim (rest-feed y text x.0 x.1) [
        | inl none ↦ inl (
          f ∷ [],
          All-cons IsField f [] is (All-nil IsField),
          x.1 ∙ ap (λ (t : List ℕ). text ++ t) none,
        )
        | inr v ↦ elim (fields-front fs last v.0 r (All-tail IsField f fs all) (x.2 ∙ ap (λ (t : List ℕ). t ++ r) v.1)) [
          | inl k ↦ inl (
            f ∷ k.0,
            All-cons IsField f k.0 is k.1,
            x.1 ∙ ap (λ (t : List ℕ). text ++ t) (v.1 ∙ k.2),
          )
          | inr none ↦ inr none
        ]
      ]
    ]

no-text : (lines : List ℕ) → AllPass is_newline lines → list_any is_no_newline lines ≡ true → ⊥
no-text [] all text = absurd (cc)
no-text (x ∷ lines) all text =
    no-text lines (All-tail (λ b. is_newline b ≡ true) x lines all)
    (ap (λ (t : Bool). not t || list_any is_no_newline lines) (sym (All-head (λ b. is_newline b ≡ true) x lines all)) ∙ text)

total : (a b : ℕ) → (a ≤ b) ⊎ (b < a)
total zero b = inl (omega arith)
total (suc a) zero = inr (omega arith)
total (suc a) (suc b) = elim (total a b) [
  | inl le ↦ inl (omega arith)
  | inr lt ↦ inr (omega arith)
]

end-some : (end : LineEnd) → 0 < length (print_end end)
end-some crlf = omega arith
end-some lf = omega arith

-- a head of more lines than fit isn't of the lines that can be of a head
too-many : (side : Side) (h : Head) → IsHeadOf side h → HEADER_LIMIT < length (fields_of h) → head_lines (print_head h) ≡ print_head h → ⊥
too-many side h is many whole =
    let s = head-shape side h is in
    let fs = fields_of h in
    let few = take 65 fs in
    let back = drop 65 fs in
    let all : All IsField few = All-take IsField 65 fs s.each in
    let some : 65 ≤ length fs = many in
    let count : length few + 0 ≡ 65 = omega (arith, length-take 65 fs) in
    let end = print_end (last_of h) in
    let after = flat_map print_field back ++ end in
    let text : print_head h ≡ print_blank s.blank ++ (s.line ++ (print_end s.end ++ (flat_map print_field few ++ after))) =
    head-text side h s
    ∙ ap (λ (t : List Field). print_blank s.blank ++ (s.line ++ (print_end s.end ++ (flat_map print_field t ++ end)))) (sym (take-append-drop 65 fs))
    ∙ ap (λ (t : List ℕ). print_blank s.blank ++ (s.line ++ (print_end s.end ++ (t ++ end)))) (flat_map-append print_field few back)
    ∙ ap (λ (t : List ℕ). print_blank s.blank ++ (s.line ++ (print_end s.end ++ t))) (append_assoc (flat_map print_field few) (flat_map print_field back) end) in
    let cut = sym text ∙ sym whole ∙ ap head_lines text ∙ lines-of-head side h s few 0 after all count
    ∙ ap (λ (t : List ℕ). print_blank s.blank ++ (s.line ++ (print_end s.end ++ (flat_map print_field few ++ t)))) (lines-zero after) in
    short (print_blank s.blank) s.line (print_end s.end) (flat_map print_field few) (flat_map print_field back) end (end-some (last_of h)) cut
  where
    short : (a b c d e f : List ℕ) → 0 < length f → a ++ (b ++ (c ++ (d ++ (e ++ f)))) ≡ a ++ (b ++ (c ++ (d ++ []))) → ⊥
    short a b c d e f some eq =
        let n = ap length eq in
        absurd (omega (
          arith,
          n,
          length-append a (b ++ (c ++ (d ++ (e ++ f)))),
          length-append b (c ++ (d ++ (e ++ f))),
          length-append c (d ++ (e ++ f)),
          length-append d (e ++ f),
          length-append e f,
          length-append a (b ++ (c ++ (d ++ []))),
          length-append b (c ++ (d ++ [])),
          length-append c (d ++ []),
          length-append d [],
        ))

-- no whole head stands there
no-whole : (side : Side) (b : List ℕ) (h : Head) → IsHeadBegun side b → IsHeadOf side h → b ≡ print_head h → ⊥
no-whole side b h begun is e = elim (total (length (fields_of h)) HEADER_LIMIT) [
  | inl few ↦ (begun-whole side b begun).none h [] (is, e ∙ sym (append-nil (print_head h))) few
  | inr many ↦ too-many side h is many (ap head_lines (sym e) ∙ head-whole b begun.lines ∙ e)
]

blank-text : (ends : List LineEnd) (lines y : List ℕ) → print_blank ends ≡ (lines ++ 10 ∷ []) ++ y → list_any is_no_newline lines ≡ true → ⊥
blank-text ends lines y e text =
    let all = subst (λ (t : List ℕ). AllPass is_newline t) e (blank-all ends) in
    no-text lines (passes-left is_newline lines (10 ∷ []) (passes-left is_newline (lines ++ 10 ∷ []) y all)) text

-- behind empty lines, lines with some text go on to a line feed
past-blank : (ends : List LineEnd) (lines y : List ℕ) → lines ++ 10 ∷ [] ≡ print_blank ends ++ y → list_any is_no_newline lines ≡ true → (v : List ℕ) × (y ≡ v ++ 10 ∷ [])
past-blank ends lines y e text = elim (rest-feed lines (print_blank ends) y e) [
  | inl none ↦ absurd (blank-text ends lines []
      (sym (append-nil (print_blank ends)) ∙ ap (λ (t : List ℕ). print_blank ends ++ t) (sym none) ∙ sym e ∙ sym (append-nil (lines ++ 10 ∷ []))) text)
  | inr v ↦ v
]

clean-feed : (v part : List ℕ) → Clean ((v ++ 10 ∷ []) ++ part) → ⊥
clean-feed [] part c = All-head (λ b. b ≢ 10) 10 part c refl
clean-feed (x ∷ v) part c = clean-feed v part (All-tail (λ b. b ≢ 10) x ((v ++ 10 ∷ []) ++ part) c)

-- bytes that end in a target have no line behind the empty ones
target-lines : (side : Side) (lines part : List ℕ) → list_any is_no_newline lines ≡ true → EndsInTarget side ((lines ++ 10 ∷ []) ++ part) → ⊥
unfolding is_token_byte
target-lines Responses lines part text x = x
target-lines Requests lines part text x =
    let blank = print_blank x.0 in
    let first = x.1 ++ 32 ∷ x.2 in
    let clean : Clean first =
    All-append (λ b. b ≢ 10) x.1 (32 ∷ x.2) (clean-test is_token_byte refl x.1 x.3.1)
    (All-cons (λ b. b ≢ 10) 32 x.2 (λ e. absurd (cc)) (clean-test is_target_byte refl x.2 x.4)) in
    elim (cut (lines ++ 10 ∷ []) part blank first (x.5 ∙ append_assoc blank x.1 (32 ∷ x.2))) [
      | inl y ↦ blank-text x.0 lines y.0 y.1 text
      | inr y ↦
          let v = past-blank x.0 lines y.0 y.1 text in
          clean-feed v.0 part (subst (λ (t : List ℕ). Clean t) (y.2 ∙ ap (λ (t : List ℕ). t ++ part) v.1) clean)
    ]

-- the first line and some field lines
front-of : (side : Side) (h : Head) (s : Shape side h) (k : List Field) (b : List ℕ) → All IsField k
    → b ≡ print_blank s.blank ++ ((s.line ++ print_end s.end) ++ flat_map print_field k) → IsFront side b
front-of side h s k b each e = λ fields last all. (
  with_fields h (k ++ fields) last,
  s.again (k ++ fields) last (All-append IsField k fields each all),
  s.prints (k ++ fields) last ∙ ap (λ (t : List ℕ). print_blank s.blank ++ (s.line ++ (print_end s.end ++ (t ++ print_end last)))) (flat_map-append print_field k fields)
      ∙ regroup (print_blank s.blank) s.line (print_end s.end) (flat_map print_field k) (flat_map print_field fields) (print_end last)
      ∙ ap (λ (t : List ℕ). t ++ print_section fields last) (sym e),
)
  where
    regroup : (a b c d e f : List ℕ) → a ++ (b ++ (c ++ ((d ++ e) ++ f))) ≡ (a ++ ((b ++ c) ++ d)) ++ (e ++ f)
    regroup a b c d e f = simp append_assoc

-- the lines at the front of a head, of which the first is there
front-of-head : (side : Side) (h : Head) → IsHeadOf side h → (lines after : List ℕ) → (after ≡ [] → ⊥) → list_any is_no_newline lines ≡ true
    → (lines ++ 10 ∷ []) ++ after ≡ print_head h → IsFront side (lines ++ 10 ∷ [])
front-of-head side h is lines after some text e =
    let s = head-shape side h is in
    let blank = print_blank s.blank in
    let first = s.line ++ print_end s.end in
    let fs = fields_of h in
    let rest = flat_map print_field fs ++ print_end (last_of h) in
    let clean = passes-clean s.line s.passes in
    let whole : (lines ++ 10 ∷ []) ++ after ≡ blank ++ (first ++ rest) =
    e ∙ head-text side h s ∙ ap (λ (t : List ℕ). blank ++ t) (sym (append_assoc s.line (print_end s.end) rest)) in
    elim (cut (lines ++ 10 ∷ []) after blank (first ++ rest) whole) [
      | inl y ↦ absurd (blank-text s.blank lines y.0 y.1 text)
      | inr y ↦
          let v = past-blank s.blank lines y.0 y.1 text in
          let at : lines ++ 10 ∷ [] ≡ blank ++ (v.0 ++ 10 ∷ []) = y.1 ∙ ap (λ (t : List ℕ). blank ++ t) v.1 in
          let parts : (v.0 ++ 10 ∷ []) ++ after ≡ first ++ rest = ap (λ (t : List ℕ). t ++ after) (sym v.1) ∙ sym y.2 in
          elim (cut (v.0 ++ 10 ∷ []) after first rest parts) [
            | inl z ↦
                let none : z.0 ≡ [] = one-end s.line s.end v.0 z.0 clean z.1 in
                front-of side h s [] (lines ++ 10 ∷ []) (All-nil IsField)
                (at ∙ ap (λ (t : List ℕ). blank ++ t) (sym (append-nil (v.0 ++ 10 ∷ [])) ∙ ap (λ (t : List ℕ). (v.0 ++ 10 ∷ []) ++ t) (sym none) ∙ sym z.1 ∙ sym (append-nil first)))
            | inr z ↦ elim (rest-feed v.0 first z.0 z.1) [
              | inl none ↦ front-of side h s [] (lines ++ 10 ∷ []) (All-nil IsField) (at ∙ ap (λ (t : List ℕ). blank ++ t) (z.1 ∙ ap (λ (t : List ℕ). first ++ t) none))
              | inr w ↦ elim (fields-front fs (last_of h) w.0 after s.each (z.2 ∙ ap (λ (t : List ℕ). t ++ after) w.1)) [
                | inl k ↦ front-of side h s k.0 (lines ++ 10 ∷ []) k.1 (at ∙ ap (λ (t : List ℕ). blank ++ t) (z.1 ∙ ap (λ (t : List ℕ). first ++ t) (w.1 ∙ k.2)))
                | inr none ↦ absurd (some none)
              ]
            ]
          ]
    ]

pub whole-lines : (side : Side) (lines part : List ℕ) → IsHeadBegun side ((lines ++ 10 ∷ []) ++ part) → list_any is_no_newline lines ≡ true → IsFront side (lines ++ 10 ∷ [])
whole-lines side lines part begun text =
    let b = (lines ++ 10 ∷ []) ++ part in
    let x = begun-whole side b begun in
    elim x.can [
      | inl c ↦
          let e : b ++ c.0 ≡ print_head c.1 = c.2.1 ∙ append-nil (print_head c.1) in
          front-of-head side c.1 c.2.0 lines (part ++ c.0) (ends c.0 c.1 c.2.0 e) text (sym (append_assoc (lines ++ 10 ∷ []) part c.0) ∙ e)
      | inr t ↦ absurd (target-lines side lines part text t)
    ]
  where
    nothing : (a b : List ℕ) → a ++ b ≡ [] → b ≡ []
    nothing [] b e = e
    nothing (x ∷ a) b e = absurd (cc)

    ends : (more : List ℕ) (h : Head) → IsHeadOf side h → ((lines ++ 10 ∷ []) ++ part) ++ more ≡ print_head h → part ++ more ≡ [] → ⊥
    ends more h is e none =
        no-whole side ((lines ++ 10 ∷ []) ++ part) h begun is
        (sym (append-nil ((lines ++ 10 ∷ []) ++ part)) ∙ ap (λ (t : List ℕ). ((lines ++ 10 ∷ []) ++ part) ++ t) (sym (nothing part more none)) ∙ e)

-- ---- the front of what is begun

choose-zero : (t : Bool) (n n' m m' : ℕ) → (n ≡ 0 → n' ≡ 0) → (m ≡ 0 → m' ≡ 0) → (if t then n else m) ≡ 0 → (if t then n' else m') ≡ 0
choose-zero true n n' m m' f g e = f e
choose-zero false n n' m m' f g e = g e

lines_left-longer : (n : ℕ) (b more : List ℕ) → lines_left n b ≡ 0 → lines_left n (b ++ more) ≡ 0
unfolding lines_left
lines_left-longer zero b more e = refl
lines_left-longer (suc n) [] more e = absurd (omega (arith, e))
lines_left-longer (suc n) (c ∷ b) more e =
    choose-zero (c == 10) (lines_left n b) (lines_left n (b ++ more)) (lines_left (suc n) b) (lines_left (suc n) (b ++ more)) (lines_left-longer n b more) (lines_left-longer (suc n) b more) e

all-lines-longer : (b more : List ℕ) → HasAllLines b → HasAllLines (b ++ more)
unfolding head_lines_left
all-lines-longer [] more e = absurd (omega (arith, e))
all-lines-longer (c ∷ b) more e =
    choose-zero (is_newline c) (head_lines_left b) (head_lines_left (b ++ more)) (lines_left LINE_LIMIT (c ∷ b)) (lines_left LINE_LIMIT (c ∷ b ++ more))
    (all-lines-longer b more) (lines_left-longer LINE_LIMIT (c ∷ b) more) e

begun-front : (side : Side) (a y : List ℕ) → IsHeadBegun side (a ++ y) → CanBecomeHead side a → IsHeadBegun side a
begun-front side a y begun can =
    let x = begun-whole side (a ++ y) begun in
    let short = begun-short side (a ++ y) begun in
    begun-of side a (λ h rest reads few. x.none h (rest ++ y) (reads.0, ap (λ (t : List ℕ). t ++ y) reads.1 ∙ append_assoc (print_head h) rest y) few) can
    (omega (arith, length-append a y)) (λ all. begun.lines (all-lines-longer a y all))

-- At the start of a line behind the first one, the bytes up to it are known.
pub line-known : (side : Side) (bytes : List ℕ) (at : ℕ) → IsHeadBegun side bytes → IsLineStart bytes at → IsKnown side (Some place.Line) (take at bytes) × (at ≤ length bytes)
line-known side bytes at begun x =
    let front = x.lines ++ 10 ∷ [] in
    let begun' = subst (λ (t : List ℕ). IsHeadBegun side t) x.bytes_are begun in
    let is = whole-lines side x.lines x.part begun' x.text in
    let r = is [] lf (All-nil IsField) in
    let can : CanBecomeHead side front = inl (10 ∷ [], r.0, (r.1, sym r.2 ∙ sym (append-nil (print_head r.0)))) in
    let known : IsKnown side (Some place.Line) front = (begun-front side front x.part begun' can, is) in
    let cut : take at bytes ≡ front = ap (λ (t : List ℕ). take at t) x.bytes_are ∙ ap (λ (n : ℕ). take n (front ++ x.part)) x.at_is ∙ take-append_seam front x.part in (
      subst (λ (t : List ℕ). IsKnown side (Some place.Line) t) (sym cut) known,
      omega (arith, ap length x.bytes_are, length-append front x.part, x.at_is),
    )

pub line-start : (bytes : List ℕ) (at : ℕ) → at < length bytes → get_or bytes at 0 ≡ 10 → list_any is_no_newline (take at bytes) ≡ true → IsLineStart bytes (at + 1)
line-start bytes at less feed text = record {
  lines = take at bytes;
  part = drop (at + 1) bytes;
  bytes_are = sym (take-append-drop at bytes) ∙ ap (λ (t : List ℕ). take at bytes ++ t) (drop-cons bytes at 0 less ∙ ap (λ (n : ℕ). n ∷ drop (suc at) bytes) feed ∙ ap (λ (n : ℕ). 10 ∷ drop n bytes) (sym (add-one at)))
      ∙ sym (append_assoc (take at bytes) (10 ∷ []) (drop (at + 1) bytes));
  at_is = omega (arith, length-append (take at bytes) (10 ∷ []), length-take at bytes);
  text = text;
}

-- In bytes that begin a head, the last of which stands behind a line's start.
pub known-from : (side : Side) (bytes : List ℕ) (at : ℕ) (p : Option Place) → IsHeadBegun side bytes → IsLineStart bytes at
    → p ≡ place_behind side (Some place.Line) (drop at bytes) → IsKnown side p bytes
known-from side bytes at p begun x e =
    let line = line-known side bytes at begun x in
    let whole = take-append-drop at bytes in
    let short : length (take at bytes ++ drop at bytes) < HEAD_LIMIT = subst (λ (t : List ℕ). length t < HEAD_LIMIT) (sym whole) (begun-short side bytes begun) in
    subst (λ (o : Option Place). IsKnown side o bytes) (sym e)
    (subst (λ (t : List ℕ). IsKnown side (place_behind side (Some place.Line) (drop at bytes)) t) whole (known-behind side (Some place.Line) (take at bytes) (drop at bytes) short line.0))

-- the bytes that came behind those that are known
pub known-now : (side : Side) (bytes : List ℕ) (n : ℕ) (known p : Option Place) → length bytes < HEAD_LIMIT → IsKnown side known (take n bytes)
    → p ≡ place_behind side known (drop n bytes) → IsKnown side p bytes
known-now side bytes n known p short k e =
    let whole = take-append-drop n bytes in
    subst (λ (o : Option Place). IsKnown side o bytes) (sym e)
    (subst (λ (t : List ℕ). IsKnown side (place_behind side known (drop n bytes)) t) whole
    (known-behind side known (take n bytes) (drop n bytes) (subst (λ (t : List ℕ). length t < HEAD_LIMIT) (sym whole) short) k))

pub from-there : (at : ℕ) (bytes : List ℕ) → take (length bytes - at) (drop at bytes) ≡ drop at bytes
from-there at bytes = take_all (length bytes - at) (drop at bytes) (omega (arith, length-drop at bytes))

-- no bytes begin a head
pub nothing-known : (side : Side) → IsKnown side (Some place.Blank) []
nothing-known side = blank-known side [] [] (omega arith) refl
