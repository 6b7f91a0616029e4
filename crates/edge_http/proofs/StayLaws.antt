-- A fault stays, whatever follows the bytes.
use Rattle.std.proofs.Common.{◌≡◌, ℕ, zero, suc, ◌+◌, ◌<◌, ◌≤◌, ◌⊎◌, Bool, true, false, if◌then◌else◌, ◌==◌, List, [], ◌∷◌, ◌++◌, length, take, refl, sym, ap, ◌∙◌, subst, arith, append_assoc, append-nil, inl, inr, length-append, length-take}
use Rattle.std.proofs.lemmas.List.{nil_from_length}
use Rattle.std.proofs.lemmas.List.Elements.{All-head, All-tail, All-nil, All-cons}
use Rattle.std.proofs.lemmas.Str.Ascii.{IsAscii-cons, IsAscii-nil}
use Rattle.std.proofs.lemmas.Str.{IsUtf8-from_ascii}
use Rattle.httparse.specs.Pieces.{is_newline}
use Rattle.httparse.specs.Grammar.{is_uri_byte, AllPass, IsToken, IsField, LineEnd, lf, print_end, print_blank, print_version, print_section, RequestHead, print_request, print_chunk_line}
use Rattle.httparse.proofs.GrammarLemmas.{print_request-append}
use Rattle.edge_heads.specs.declared.TheConstants.{HEAD_LIMIT, LINE_LIMIT}
use Rattle.edge_heads.specs.declared.values.Side.{Side}
use Rattle.edge_heads.specs.declared.values.Side.TheVariants.{Requests, Responses}
use Rattle.edge_heads.specs.declared.values.BodyForm.{BodyForm}
use Rattle.edge_heads.specs.declared.values.HttpFail.{HttpFail}
use Rattle.edge_heads.specs.declared.values.HttpFail.TheVariants.{BadHead, HeadTooLong, TooManyHeaders, NoLength, BadChunk, BodyTooLarge, NoMemory}
use Rattle.edge_http.specs.declared.messages.HttpMessage.{HttpMessage}
use Rattle.edge_heads.specs.Heads.{Head, asks, print_head, is_target_byte, EndsInTarget, NeverHasHead, IsNoHead, IsBegun, IsFittingHead, lines_part, lines_left, head_lines, head_lines_left, head_part, HasAllLines}
use Rattle.edge_heads.specs.Bodies.{print_chunks, IsNoSize, IsNoTrailer, NeverEnds, IsBadChunk, IsLargeChunk}
use Rattle.edge_http.specs.Streams.{HasForm, HasChunks, Fails, Begins, Reads, Failed, print_messages}

-- ---- the part of a head

choose : (t : Bool) (c : ℕ) (a a' b b' : List ℕ) → ((x : List ℕ) × (a' ≡ a ++ x)) → ((x : List ℕ) × (b' ≡ b ++ x))
    → (x : List ℕ) × ((c ∷ (if t then a' else b')) ≡ (c ∷ (if t then a else b)) ++ x)
choose true c a a' b b' x y = (x.0, ap (λ (t : List ℕ). c ∷ t) x.1)
choose false c a a' b b' x y = (y.0, ap (λ (t : List ℕ). c ∷ t) y.1)

choose-newline : (t : Bool) (c : ℕ) (a a' b b' : List ℕ) → ((x : List ℕ) × (a' ≡ a ++ x)) → ((x : List ℕ) × (b' ≡ b ++ x))
    → (x : List ℕ) × ((if t then c ∷ a' else b') ≡ (if t then c ∷ a else b) ++ x)
choose-newline true c a a' b b' x y = (x.0, ap (λ (t : List ℕ). c ∷ t) x.1)
choose-newline false c a a' b b' x y = y

lines-append : (n : ℕ) (b more : List ℕ) → (x : List ℕ) × (lines_part n (b ++ more) ≡ lines_part n b ++ x)
unfolding lines_part
lines-append zero b more = ([], refl)
lines-append (suc n) [] more = (lines_part (suc n) more, refl)
lines-append (suc n) (c ∷ b) more =
    choose (c == 10) c (lines_part n b) (lines_part n (b ++ more)) (lines_part (suc n) b) (lines_part (suc n) (b ++ more)) (lines-append n b more) (lines-append (suc n) b more)

head_lines-append : (b more : List ℕ) → (x : List ℕ) × (head_lines (b ++ more) ≡ head_lines b ++ x)
unfolding head_lines
head_lines-append [] more = (head_lines more, refl)
head_lines-append (c ∷ b) more =
    choose-newline (is_newline c) c (head_lines b) (head_lines (b ++ more)) (lines_part LINE_LIMIT (c ∷ b)) (lines_part LINE_LIMIT (c ∷ b ++ more))
    (head_lines-append b more) (lines-append LINE_LIMIT (c ∷ b) more)

-- the lines are all there
SameLines : List ℕ → List ℕ → ℕ → Type 0
SameLines new old left = (new ≡ old) × (left ≡ 0)

choose-lines : (t : Bool) (c : ℕ) (a a' b b' : List ℕ) (n n' m m' : ℕ) → (n ≡ 0 → (a' ≡ a) × (n' ≡ 0)) → (m ≡ 0 → (b' ≡ b) × (m' ≡ 0))
    → (if t then n else m) ≡ 0 → ((c ∷ (if t then a' else b')) ≡ (c ∷ (if t then a else b))) × ((if t then n' else m') ≡ 0)
choose-lines true c a a' b b' n n' m m' x y e = let r = x e in (ap (λ (t : List ℕ). c ∷ t) r.0, r.1)
choose-lines false c a a' b b' n n' m m' x y e = let r = y e in (ap (λ (t : List ℕ). c ∷ t) r.0, r.1)

choose-newlines : (t : Bool) (c : ℕ) (a a' b b' : List ℕ) (n n' m m' : ℕ) → (n ≡ 0 → (a' ≡ a) × (n' ≡ 0)) → (m ≡ 0 → (b' ≡ b) × (m' ≡ 0))
    → (if t then n else m) ≡ 0 → ((if t then c ∷ a' else b') ≡ (if t then c ∷ a else b)) × ((if t then n' else m') ≡ 0)
choose-newlines true c a a' b b' n n' m m' x y e = let r = x e in (ap (λ (t : List ℕ). c ∷ t) r.0, r.1)
choose-newlines false c a a' b b' n n' m m' x y e = y e

lines-all : (n : ℕ) (b more : List ℕ) → lines_left n b ≡ 0 → (lines_part n (b ++ more) ≡ lines_part n b) × (lines_left n (b ++ more) ≡ 0)
unfolding lines_part lines_left
lines-all zero b more e = (refl, refl)
lines-all (suc n) [] more e = absurd (cc)
lines-all (suc n) (c ∷ b) more e =
    choose-lines (c == 10) c (lines_part n b) (lines_part n (b ++ more)) (lines_part (suc n) b) (lines_part (suc n) (b ++ more))
    (lines_left n b) (lines_left n (b ++ more)) (lines_left (suc n) b) (lines_left (suc n) (b ++ more)) (lines-all n b more) (lines-all (suc n) b more) e

head_lines-all : (b more : List ℕ) → HasAllLines b → (head_lines (b ++ more) ≡ head_lines b) × HasAllLines (b ++ more)
unfolding head_lines head_lines_left
head_lines-all [] more e = absurd (omega (arith, e))
head_lines-all (c ∷ b) more e =
    choose-newlines (is_newline c) c (head_lines b) (head_lines (b ++ more)) (lines_part LINE_LIMIT (c ∷ b)) (lines_part LINE_LIMIT (c ∷ b ++ more))
    (head_lines_left b) (head_lines_left (b ++ more)) (lines_left LINE_LIMIT (c ∷ b)) (lines_left LINE_LIMIT (c ∷ b ++ more))
    (head_lines-all b more) (lines-all LINE_LIMIT (c ∷ b) more) e

take-grows : (n : ℕ) (a b : List ℕ) → (x : List ℕ) × (take n (a ++ b) ≡ take n a ++ x)
take-grows zero a b = ([], refl)
take-grows (suc n) [] b = (take (suc n) b, refl)
take-grows (suc n) (c ∷ a) b = let r = take-grows n a b in (r.0, ap (λ (t : List ℕ). c ∷ t) r.1)

part-grows : (b more : List ℕ) → (x : List ℕ) × (head_part (b ++ more) ≡ head_part b ++ x)
unfolding head_part
part-grows b more =
    let lines = head_lines-append b more in
    let r = take-grows HEAD_LIMIT (head_lines b) lines.0 in
    (r.0, ap (λ (t : List ℕ). take HEAD_LIMIT t) lines.1 ∙ r.1)

part-least : (b : List ℕ) → length (head_part b) ≤ HEAD_LIMIT
unfolding head_part
part-least b = omega (arith, length-take HEAD_LIMIT (head_lines b))

part-long : (b more : List ℕ) → length (head_part b) ≡ HEAD_LIMIT → head_part (b ++ more) ≡ head_part b
part-long b more e =
    let r = part-grows b more in
    let least = part-least (b ++ more) in
    let len : length (head_part (b ++ more)) ≡ length (head_part b) + length r.0 = ap length r.1 ∙ length-append (head_part b) r.0 in
    let none : length r.0 ≡ 0 = omega arith in
    r.1 ∙ ap (λ (t : List ℕ). head_part b ++ t) (nil_from_length r.0 none) ∙ append-nil (head_part b)

part-lines : (b more : List ℕ) → HasAllLines b → head_part (b ++ more) ≡ head_part b
unfolding head_part
part-lines b more e = ap (λ (t : List ℕ). take HEAD_LIMIT t) (head_lines-all b more e).0

-- ---- two ways to cut bytes

pub cut : (a b c d : List ℕ) → a ++ b ≡ c ++ d → ((y : List ℕ) × (c ≡ a ++ y) × (b ≡ y ++ d)) ⊎ ((y : List ℕ) × (a ≡ c ++ y) × (d ≡ y ++ b))
cut [] b c d e = inl (c, refl, e)
cut (x ∷ a) b [] d e = inr (x ∷ a, refl, sym e)
cut (x ∷ a) b (z ∷ c) d e =
    let heads : x ≡ z = cc in
    let tails : a ++ b ≡ c ++ d = cc in
    elim (cut a b c d tails) [
      | inl r ↦ inl (r.0, (λ i. sym heads i ∷ r.1 i), r.2)
      | inr r ↦ inr (r.0, (λ i. heads i ∷ r.1 i), r.2)
    ]

-- ---- no head can come

front-passes : (test : ℕ → Bool) (a b : List ℕ) → AllPass test (a ++ b) → AllPass test a
front-passes test [] b all = All-nil (λ b. test b ≡ true)
front-passes test (x ∷ a) b all =
    All-cons (λ b. test b ≡ true) x a (All-head (λ b. test b ≡ true) x (a ++ b) all) (front-passes test a b (All-tail (λ b. test b ≡ true) x (a ++ b) all))

-- a request with this method
abbrev shortest : List LineEnd → List ℕ → RequestHead
shortest blank method = record { blank = blank; method = method; target = 47 ∷ []; minor = 1; line_end = lf; fields = []; last = lf }

abbrev after_method : List ℕ
after_method = 47 ∷ 32 ∷ (print_version 1 ++ (print_end lf ++ (print_section [] lf ++ [])))

reads-shortest : (blank : List LineEnd) (method : List ℕ) → IsToken method
    → (more : List ℕ) × ((text : List ℕ) (y : List ℕ) → (print_blank blank ++ method) ++ 32 ∷ [] ≡ text ++ y → ¬ (NeverHasHead Requests text))
reads-shortest blank method token = (
  after_method,
  λ text y e never.
      let h = shortest blank method in
      let b = print_blank blank in
      let sum : text ++ (y ++ after_method) ≡ print_request h ++ [] =
      sym (append_assoc text y after_method) ∙ ap (λ (t : List ℕ). t ++ after_method) (sym e) ∙ append_assoc (b ++ method) (32 ∷ []) after_method
      ∙ append_assoc b method (32 ∷ after_method) ∙ sym (print_request-append h []) in
      never (y ++ after_method) (asks h) [] (
        record {
          method = token;
          target = (omega arith, All-cons (λ b. is_uri_byte b ≡ true) 47 [] refl (All-nil (λ b. is_uri_byte b ≡ true)));
          target_text = IsUtf8-from_ascii _ (IsAscii-cons 47 [] (omega arith) IsAscii-nil);
          minor = omega arith;
          fields = All-nil IsField;
        },
        sum,
      ),
)

outside-stays : (side : Side) (b more : List ℕ) → IsNoHead side b → ¬ (EndsInTarget side (b ++ more))
outside-stays Responses b more x ends = ends
outside-stays Requests b more x ends =
    let front = (print_blank ends.0 ++ ends.1) ++ 32 ∷ [] in
    let same : b ++ more ≡ front ++ ends.2 = ends.5 ∙ sym (append_assoc (print_blank ends.0 ++ ends.1) (32 ∷ []) ends.2) in
    elim (cut b more front ends.2 same) [
      | inl r ↦ (reads-shortest ends.0 ends.1 ends.3).1 b r.0 r.1 x.never
      | inr r ↦ x.outside (
        ends.0,
        ends.1,
        r.0,
        ends.3,
        front-passes is_target_byte r.0 more (subst (λ (t : List ℕ). AllPass is_target_byte t) r.2 ends.4),
        r.1 ∙ append_assoc (print_blank ends.0 ++ ends.1) (32 ∷ []) r.0,
      )
    ]

no-head-stays : (side : Side) (b more : List ℕ) → IsNoHead side b → IsNoHead side (b ++ more)
no-head-stays side b more x = record {
  never = λ later h rest y. x.never (more ++ later) h rest (y.0, sym (append_assoc b more later) ∙ y.1);
  outside = outside-stays side b more x;
}

-- ---- no size line, no trailer and no end can come

too-long : (b more text rest : List ℕ) → HEAD_LIMIT ≤ length b → length text ≤ HEAD_LIMIT → b ++ more ≡ text ++ rest → (y : List ℕ) × (b ≡ text ++ y)
too-long b more text rest long fits e = elim (cut b more text rest e) [
  | inl r ↦
      let len : length text ≡ length b + length r.0 = ap length r.1 ∙ length-append b r.0 in
      let none : length r.0 ≡ 0 = omega arith in
      ([], sym (append-nil b) ∙ ap (λ (t : List ℕ). b ++ t) (sym (nil_from_length r.0 none)) ∙ sym r.1 ∙ sym (append-nil text))
  | inr r ↦ (r.0, r.1)
]

longer : (b more : List ℕ) → HEAD_LIMIT ≤ length b → HEAD_LIMIT ≤ length (b ++ more)
longer b more long = omega (arith, length-append b more)

no-size-stays : (b more : List ℕ) → IsNoSize b → IsNoSize (b ++ more)
no-size-stays b more (inl never) = inl (λ later l rest x. never (more ++ later) l rest (x.0, sym (append_assoc b more later) ∙ x.1))
no-size-stays b more (inr long) = inr (
  longer b more long.0,
  λ l rest x.
      let r = too-long b more (print_chunk_line l) rest long.0 x.0.fits x.1 in long.1 l r.0 (x.0, r.1),
)

no-trailer-stays : (b more : List ℕ) → IsNoTrailer b → IsNoTrailer (b ++ more)
no-trailer-stays b more (inl never) = inl (λ later fields end rest x. never (more ++ later) fields end rest (x.0, sym (append_assoc b more later) ∙ x.1))
no-trailer-stays b more (inr long) = inr (
  longer b more long.0,
  λ fields end rest x.
      let r = too-long b more (print_section fields end) rest long.0 x.0.fits x.1 in long.1 fields end r.0 (x.0, r.1),
)

never-ends-stays : (b more : List ℕ) → NeverEnds b → NeverEnds (b ++ more)
never-ends-stays b more never = λ later rest e. never (more ++ later) rest (sym (append_assoc b more later) ∙ e)

pub two-parts : (b more a r : List ℕ) → b ≡ a ++ r → b ++ more ≡ a ++ (r ++ more)
two-parts b more a r e = ap (λ (t : List ℕ). t ++ more) e ∙ append_assoc a r more

bad-stays : (limit sum : ℕ) (b more : List ℕ) → IsBadChunk limit sum b → IsBadChunk limit sum (b ++ more)
bad-stays limit sum b more (inl x) = inl (no-size-stays b more x)
bad-stays limit sum b more (inr (inl x)) =
    let y = x.2 in
    inr (inl (
      x.0,
      x.1 ++ more,
      record {
        line = y.line;
        is_line = y.is_line;
        some = y.some;
        within = y.within;
        whole = y.whole;
        parts = two-parts b more (print_chunk_line y.line) (x.0 ++ x.1) y.parts ∙ ap (λ (t : List ℕ). print_chunk_line y.line ++ t) (append_assoc x.0 x.1 more);
      },
      never-ends-stays x.1 more x.3,
    ))
bad-stays limit sum b more (inr (inr x)) =
    inr (inr (x.0 ++ more, (x.1.0, x.1.1, two-parts b more (print_chunk_line x.1.0) x.0 x.1.2), no-trailer-stays x.0 more x.2))

large-stays : (limit sum : ℕ) (b more : List ℕ) → IsLargeChunk limit sum b → IsLargeChunk limit sum (b ++ more)
large-stays limit sum b more x = (x.0, x.1 ++ more, (x.2.0, two-parts b more (print_chunk_line x.0) x.1 x.2.1), x.3)

-- ---- faults

pub fitting-longer : (side : Side) (b more : List ℕ) (h : Head) (rest : List ℕ) → IsFittingHead side b h rest → IsFittingHead side (b ++ more) h (rest ++ more)
fitting-longer side b more h rest x = record { reads = (x.reads.0, two-parts b more (print_head h) rest x.reads.1); fits = x.fits }

form-stays : (side : Side) (b more : List ℕ) (form : BodyForm) → HasForm side b form → HasForm side (b ++ more) form
form-stays side b more form x = (x.0, x.1 ++ more, fitting-longer side b more x.0 x.1 x.2, x.3)

chunks-stay : (side : Side) (limit : ℕ) (b more : List ℕ) (Then : ℕ → List ℕ → Type 0) → ((sum : ℕ) (t : List ℕ) → Then sum t → Then sum (t ++ more))
    → HasChunks side limit b Then → HasChunks side limit (b ++ more) Then
chunks-stay side limit b more Then stay x = record {
  head = x.head;
  after = x.after ++ more;
  reads = fitting-longer side b more x.head x.after x.reads;
  form = x.form;
  chunks = x.chunks;
  tail = x.tail ++ more;
  are = x.are;
  parts = two-parts x.after more (print_chunks x.chunks) x.tail x.parts;
  holds = stay _ x.tail x.holds;
}

pub fails-longer : (side : Side) (limit : ℕ) (b more : List ℕ) (why : HttpFail) → Fails side limit b why → Fails side limit (b ++ more) why
fails-longer side limit b more BadHead (inl x) =
    let r = part-grows b more in inl (subst (λ (t : List ℕ). IsNoHead side t) (sym r.1) (no-head-stays side (head_part b) r.0 x))
fails-longer side limit b more BadHead (inr x) = inr (form-stays side b more _ x)
fails-longer side limit b more HeadTooLong x =
    let e = part-long b more x.1 in
    (subst (λ (t : List ℕ). IsBegun side t) (sym e) x.0, ap length e ∙ x.1)
fails-longer side limit b more TooManyHeaders x =
    let e = part-lines b more x.2 in
    (subst (λ (t : List ℕ). IsBegun side t) (sym e) x.0, subst (λ (t : List ℕ). length t < HEAD_LIMIT) (sym e) x.1, (head_lines-all b more x.2).1)
fails-longer side limit b more NoLength x = form-stays side b more _ x
fails-longer side limit b more BadChunk x = chunks-stay side limit b more (IsBadChunk limit) (λ sum t y. bad-stays limit sum t more y) x
fails-longer side limit b more BodyTooLarge (inl x) = inl (x.0, form-stays side b more _ x.1, x.2)
fails-longer side limit b more BodyTooLarge (inr x) = inr (chunks-stay side limit b more (IsLargeChunk limit) (λ sum t y. large-stays limit sum t more y) x)
fails-longer side limit b more NoMemory x = absurd x

pub begins-longer : (side : Side) (limit : ℕ) (bytes more : List ℕ) (whole : List HttpMessage) (rest : List ℕ)
    → Begins side limit bytes whole rest → Begins side limit (bytes ++ more) whole (rest ++ more)
begins-longer side limit bytes more whole rest x = record {
  written = x.written;
  each = x.each;
  told = x.told;
  parts = two-parts bytes more (print_messages x.written) rest x.parts;
}

pub fault-stays : (side : Side) (limit : ℕ) (bytes more : List ℕ) (messages : List HttpMessage) (why : HttpFail)
    → Reads side limit bytes messages (Failed why) → Reads side limit (bytes ++ more) messages (Failed why)
fault-stays side limit bytes more messages why x = record {
  rest = x.rest ++ more;
  begins = begins-longer side limit bytes more messages x.rest x.begins;
  is_rest = fails-longer side limit x.rest more why x.is_rest;
}
