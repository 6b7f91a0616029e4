-- A message under way goes on with more bytes.
use Rattle.std.proofs.Common.{◌≡◌, ℕ, ◌+◌, ◌<◌, ◌≤◌, ◌⊎◌, List, [], ◌∷◌, ◌++◌, length, map, sym, ap, ◌∙◌, subst, arith, append_assoc, append-nil, inl, inr, length-append, All, Some}
use Rattle.std.specs.Prelude.{⊤}
use Rattle.std.proofs.lemmas.List.{map-append}
use Rattle.std.proofs.lemmas.List.Elements.{All-head}
use Rattle.httparse.specs.Ascii.{crlf_bytes}
use Rattle.httparse.specs.Grammar.{ChunkLine, print_chunk_line, chunk_size}
use Rattle.httparse.proofs.ChunkLemmas.{chunk_line_unique}
use Rattle.edge_heads.specs.declared.values.Side.{Side}
use Rattle.edge_heads.specs.declared.values.BodyForm.{BodyForm}
use Rattle.edge_heads.specs.declared.values.BodyForm.TheVariants.{Sized, Chunked, Missing, Wrong}
use Rattle.edge_http.specs.declared.messages.HttpMessage.{HttpMessage}
use Rattle.edge_heads.specs.Heads.{Head, form_of, head_value}
use Rattle.edge_heads.specs.Bodies.{Chunk, content_of, BeginsSize, plain, chunked, body_content}
use Rattle.edge_http.specs.Streams.{Message, print_messages, IsMessage, with_body, message_value, IsBodyBegun, IsMessageBegun, Rest, Open, RestIs, Begins, Reads, Continues, StillUnderWay}
use Rattle.edge_heads.proofs.HeadLaws.{one-head}
use Rattle.edge_http.proofs.StayLaws.{cut, two-parts, fitting-longer, begins-longer}
use Rattle.edge_http.proofs.ChunkLaws.{same-front, size-there-never, waits, never, there, After, large, short, full, last, AfterIs, Tail, begins, bad_size, sized, TailIs, Mark, open_with, wrong, too_large, done, next, mark_after, mark_of, MarkIs, mark-unique, IsEnd, not-end, Chain}
use Rattle.edge_http.proofs.StreamLaws.{BodyTold, fails, begun, whole, told_by, SizedIs, BodyIs, begun-told, Told, tells, message, told_of, ToldIs, case-there, rest-told, message-told, goes-on, front-part, rest-without}

-- ---- a chunk under way

abbrev GoesMark : List ℕ → Mark → Type 0
GoesMark c (open_with d) = (y : List ℕ) × (d ≡ c ++ y)
GoesMark c wrong = ⊤
GoesMark c too_large = ⊤
GoesMark c (done l t r) = c ≡ []
GoesMark c (next k r) = (y : List ℕ) × (k.content ≡ c ++ y)

from-nothing : (c : List ℕ) (m : Mark) → c ≡ [] → GoesMark c m
from-nothing c (open_with d) e = (d, ap (λ (t : List ℕ). t ++ d) (sym e))
from-nothing c wrong e = tt
from-nothing c too_large e = tt
from-nothing c (done l t r) e = e
from-nothing c (next k r) e = (k.content, ap (λ (t : List ℕ). t ++ k.content) (sym e))

-- the same size line stands in front of more bytes
tail-longer : (limit sum : ℕ) (b extra : List ℕ) (l : ChunkLine) (r : List ℕ) (w : Tail) → BeginsSize l b r → TailIs limit sum (b ++ extra) w
    → (v : After) × (w ≡ sized l v) × AfterIs limit sum (chunk_size l) (r ++ extra) v
tail-longer limit sum b extra l r begins x y = absurd (y.none l (r ++ extra) (x.0.is_line, two-parts b extra (print_chunk_line l) r x.1))
tail-longer limit sum b extra l r bad_size x y = absurd (size-there-never (b ++ extra) l (r ++ extra) (x.0, two-parts b extra (print_chunk_line l) r x.1) y)
tail-longer limit sum b extra l r (sized k v) x y =
    let e = chunk_line_unique (b ++ extra) k l y.0 (r ++ extra) (y.1.0.is_line, y.1.1) (x.0.is_line, two-parts b extra (print_chunk_line l) r x.1) in (
      v,
      ap (λ (t : ChunkLine). sized t v) e.0,
      subst (λ (t : List ℕ). AfterIs limit sum (chunk_size l) t v) e.1 (subst (λ (t : ChunkLine). AfterIs limit sum (chunk_size t) y.0 v) e.0 y.2),
    )

-- not all bytes of a chunk are there
longer-text : (r extra d q : List ℕ) → length r < length d → r ++ extra ≡ d ++ q → (y : List ℕ) × (d ≡ r ++ y)
longer-text r extra d q less e = elim (cut r extra d q e) [
  | inl x ↦ (x.0, x.1)
  | inr x ↦ absurd (let len : length r ≡ length d + length x.0 = ap length x.1 ∙ length-append d x.0 in omega arith)
]

goes-full : (l : ChunkLine) (c d : List ℕ) (end : _) → ((y : List ℕ) × (d ≡ c ++ y)) → GoesMark c (mark_after l (full d end))
goes-full l c d waits x = x
goes-full l c d never x = tt
goes-full l c d (there t r) x = x

short-goes : (limit sum : ℕ) (l : ChunkLine) (r extra : List ℕ) (v : After) → sum + chunk_size l ≤ limit → length r < chunk_size l
    → AfterIs limit sum (chunk_size l) (r ++ extra) v → GoesMark r (mark_after l v)
short-goes limit sum l r extra large h less x = absurd (let z : limit < sum + chunk_size l = x in omega arith)
short-goes limit sum l r extra (short d) h less x = (extra, sym x.2)
short-goes limit sum l r extra (full d end) h less x =
    let len : length d ≡ chunk_size l = x.2 in goes-full l r d end (longer-text r extra d x.3 (omega arith) x.4)
short-goes limit sum l r extra (last t) h less x = absurd (let z : chunk_size l ≡ 0 = x.0 in omega arith)

full-goes : (limit sum : ℕ) (l : ChunkLine) (c q extra : List ℕ) (v : After) → sum + chunk_size l ≤ limit → 0 < chunk_size l → length c ≡ chunk_size l
    → AfterIs limit sum (chunk_size l) ((c ++ q) ++ extra) v → GoesMark c (mark_after l v)
full-goes limit sum l c q extra large h some len x = absurd (let z : limit < sum + chunk_size l = x in omega arith)
full-goes limit sum l c q extra (short d) h some len x =
    let less : length d < chunk_size l = x.1 in
    let all : length d ≡ (length c + length q) + length extra =
    ap length (sym x.2) ∙ length-append (c ++ q) extra ∙ ap (λ (n : ℕ). n + length extra) (length-append c q) in absurd (omega arith)
full-goes limit sum l c q extra (full d end) h some len x =
    let e = same-front d c x.3 (q ++ extra) (x.2 ∙ sym len) (sym x.4 ∙ append_assoc c q extra) in
    goes-full l c d end ([], e.0 ∙ sym (append-nil c))
full-goes limit sum l c q extra (last t) h some len x = absurd (let z : chunk_size l ≡ 0 = x.0 in omega arith)

goes-at : (limit sum : ℕ) (b extra c : List ℕ) (v : Tail) (n : Mark) → TailIs limit sum b v → open_with c ≡ mark_of v → MarkIs limit sum (b ++ extra) n → GoesMark c n
goes-at limit sum b extra c begins n x e y = from-nothing c n (cc)
goes-at limit sum b extra c bad_size n x e y = absurd (cc)
goes-at limit sum b extra c (sized l large) n x e y = absurd (cc)
goes-at limit sum b extra c (sized l (short d)) n x e y =
    let w = tail-longer limit sum b extra l x.0 y.1 x.1 y.2 in
    let same : x.0 ≡ c = x.2.2 ∙ (let z : d ≡ c = cc in z) in
    let less : length x.0 < chunk_size l = subst (λ (t : List ℕ). length t < chunk_size l) (sym x.2.2) x.2.1 in
    subst (λ (m : Mark). GoesMark c m) (sym (y.3 ∙ ap mark_of w.1))
    (subst (λ (t : List ℕ). GoesMark t (mark_after l w.0)) same (short-goes limit sum l x.0 extra w.0 x.2.0 less w.2))
goes-at limit sum b extra c (sized l (full d waits)) n x e y =
    let w = tail-longer limit sum b extra l x.0 y.1 x.1 y.2 in
    let same : d ≡ c = cc in
    let at = subst (λ (t : List ℕ). AfterIs limit sum (chunk_size l) (t ++ extra) w.0) x.2.4 w.2 in
    subst (λ (m : Mark). GoesMark c m) (sym (y.3 ∙ ap mark_of w.1))
    (subst (λ (t : List ℕ). GoesMark t (mark_after l w.0)) same (full-goes limit sum l d x.2.3 extra w.0 x.2.0 x.2.1 x.2.2 at))
goes-at limit sum b extra c (sized l (full d never)) n x e y = absurd (cc)
goes-at limit sum b extra c (sized l (full d (there t r))) n x e y = absurd (cc)
goes-at limit sum b extra c (sized l (last waits)) n x e y = from-nothing c n (cc)
goes-at limit sum b extra c (sized l (last never)) n x e y = absurd (cc)
goes-at limit sum b extra c (sized l (last (there t r))) n x e y = absurd (cc)

-- ---- chunks in a row

-- a whole chunk stays
next-longer : (limit sum : ℕ) (b extra : List ℕ) (k : Chunk) (rest : List ℕ) (v : Tail) (h : sum ≤ limit) → TailIs limit sum b v → next k rest ≡ mark_of v → MarkIs limit sum (b ++ extra) (next k (rest ++ extra))
next-longer limit sum b extra k rest begins h x e = absurd (cc)
next-longer limit sum b extra k rest bad_size h x e = absurd (cc)
next-longer limit sum b extra k rest (sized l large) h x e = absurd (cc)
next-longer limit sum b extra k rest (sized l (short d)) h x e = absurd (cc)
next-longer limit sum b extra k rest (sized l (full d waits)) h x e = absurd (cc)
next-longer limit sum b extra k rest (sized l (full d never)) h x e = absurd (cc)
next-longer limit sum b extra k rest (sized l (full d (there t r))) h x e =
    let y = x.2 in
    let parts : b ++ extra ≡ print_chunk_line l ++ (x.0 ++ extra) = two-parts b extra (print_chunk_line l) x.0 x.1.1 in
    let chunk : k ≡ record { line = l; content = d } = cc in
    let tails : rest ≡ r = cc in (
      h,
      sized l (full d (there t (r ++ extra))),
      (x.0 ++ extra, (x.1.0, parts), (y.0, y.1, y.2, y.3 ++ extra, two-parts x.0 extra d y.3 y.4, two-parts y.3 extra crlf_bytes r y.5)),
      λ i. next (chunk i) (tails i ++ extra),
    )
next-longer limit sum b extra k rest (sized l (last waits)) h x e = absurd (cc)
next-longer limit sum b extra k rest (sized l (last never)) h x e = absurd (cc)
next-longer limit sum b extra k rest (sized l (last (there t r))) h x e = absurd (cc)

abbrev pub GoesBody : List ℕ → BodyTold → Type 0
GoesBody c (fails why) = ⊤
GoesBody c (begun d) = (y : List ℕ) × (d ≡ c ++ y)
GoesBody c (whole body r) = (y : List ℕ) × (body_content body ≡ c ++ y)

goes-first : (c : List ℕ) (k : Chunk) (ds : List Chunk) (n : Mark) → ((y : List ℕ) × (k.content ≡ c ++ y)) → GoesBody c (told_by (k ∷ ds) n)
goes-first c k ds (open_with d) x =
    (x.0 ++ (content_of ds ++ d), append_assoc k.content (content_of ds) d ∙ ap (λ (t : List ℕ). t ++ (content_of ds ++ d)) x.1 ∙ append_assoc c x.0 (content_of ds ++ d))
goes-first c k ds wrong x = tt
goes-first c k ds too_large x = tt
goes-first c k ds (done l t r) x = (x.0 ++ content_of ds, ap (λ (t : List ℕ). t ++ content_of ds) x.1 ∙ append_assoc c x.0 (content_of ds))
goes-first c k ds (next j r) x = tt

goes-none : (c : List ℕ) (n : Mark) → IsEnd n → GoesMark c n → GoesBody c (told_by [] n)
goes-none c (open_with d) end x = x
goes-none c wrong end x = tt
goes-none c too_large end x = tt
goes-none c (done l t r) end x = ([], sym (append-nil c ∙ x))
goes-none c (next k r) end x = absurd end

goes-more : (c : List ℕ) (k : Chunk) (ds : List Chunk) (n : Mark) → GoesBody c (told_by ds n) → GoesBody (k.content ++ c) (told_by (k ∷ ds) n)
goes-more c k ds (open_with d) x = (x.0, append_assoc k.content (content_of ds) d ∙ ap (λ (t : List ℕ). k.content ++ t) x.1 ∙ sym (append_assoc k.content c x.0))
goes-more c k ds wrong x = tt
goes-more c k ds too_large x = tt
goes-more c k ds (done l t r) x = (x.0, ap (λ (t : List ℕ). k.content ++ t) x.1 ∙ sym (append_assoc k.content c x.0))
goes-more c k ds (next j r) x = tt

chain-goes : (limit sum : ℕ) (b extra c : List ℕ) (cs ds : List Chunk) (n : Mark) → Chain limit sum b cs (open_with c) → Chain limit sum (b ++ extra) ds n
    → GoesBody (content_of cs ++ c) (told_by ds n)
chain-goes limit sum b extra c [] [] n x y = goes-none c n y.1 (goes-at limit sum b extra c x.0.1 n x.0.2 x.0.3 y.0)
chain-goes limit sum b extra c [] (k ∷ ds) n x y = goes-first c k ds n (goes-at limit sum b extra c x.0.1 (next k y.0) x.0.2 x.0.3 y.1)
chain-goes limit sum b extra c (j ∷ cs) [] n x y =
    absurd (not-end n j (x.0 ++ extra) (mark-unique limit sum (b ++ extra) n (next j (x.0 ++ extra)) y.0 (next-longer limit sum b extra j x.0 x.1.1 x.1.0 x.1.2 x.1.3)) y.1)
chain-goes limit sum b extra c (j ∷ cs) (k ∷ ds) n x y =
    let e = mark-unique limit sum (b ++ extra) (next k y.0) (next j (x.0 ++ extra)) y.1 (next-longer limit sum b extra j x.0 x.1.1 x.1.0 x.1.2 x.1.3) in
    let chunk : k ≡ j = cc in
    let rest : y.0 ≡ x.0 ++ extra = cc in
    let at = subst (λ (t : List ℕ). Chain limit (sum + length j.content) t ds n) rest (subst (λ (t : Chunk). Chain limit (sum + length t.content) y.0 ds n) chunk y.2) in
    let on = chain-goes limit (sum + length j.content) x.0 extra c cs ds n x.2 at in
    let all : GoesBody (j.content ++ (content_of cs ++ c)) (told_by (j ∷ ds) n) = goes-more (content_of cs ++ c) j ds n on in
    subst (λ (t : Chunk). GoesBody ((j.content ++ content_of cs) ++ c) (told_by (t ∷ ds) n)) (sym chunk)
    (subst (λ (t : List ℕ). GoesBody t (told_by (j ∷ ds) n)) (sym (append_assoc j.content (content_of cs) c)) all)

-- ---- a body under way

short-body : (n : ℕ) (b extra d r : List ℕ) → length b < n → length d ≡ n → b ++ extra ≡ d ++ r → (y : List ℕ) × (d ≡ b ++ y)
short-body n b extra d r less len e = longer-text b extra d r (omega arith) e

sized-goes : (limit n : ℕ) (b extra : List ℕ) (v : BodyTold) → length b < n → SizedIs limit n (b ++ extra) v → GoesBody b v
sized-goes limit n b extra (fails why) less x = tt
sized-goes limit n b extra (begun d) less x = (extra, x.2)
sized-goes limit n b extra (whole (plain d) r) less x = short-body n b extra d r less x.1 x.2
sized-goes limit n b extra (whole (chunked cs l fs e) r) less x = absurd x

-- what is told of a begun body of chunks
told-begun : (limit : ℕ) (b c : List ℕ) (cs : List Chunk) (m : Mark) → Chain limit 0 b cs m → begun c ≡ told_by cs m → (d : List ℕ) × Chain limit 0 b cs (open_with d) × (c ≡ content_of cs ++ d)
told-begun limit b c cs (open_with d) x e = (d, x, (let z : c ≡ content_of cs ++ d = cc in z))
told-begun limit b c cs wrong x e = absurd (cc)
told-begun limit b c cs too_large x e = absurd (cc)
told-begun limit b c cs (done l t r) x e = absurd (cc)
told-begun limit b c cs (next k r) x e = absurd (cc)

body-goes : (limit : ℕ) (form : BodyForm) (b extra c : List ℕ) (v : BodyTold) → IsBodyBegun limit form b c → BodyIs limit form (b ++ extra) v → GoesBody c v
body-goes limit (Sized n) b extra c v x y = subst (λ (t : List ℕ). GoesBody t v) (sym x.2) (sized-goes limit n b extra v x.1 y)
body-goes limit Chunked b extra c v x y =
    let told = begun-told limit Chunked b c x in
    let at = told-begun limit b c told.0 told.1 told.2 told.3 in
    subst (λ (t : List ℕ). GoesBody t v) (sym at.2) (subst (λ (w : BodyTold). GoesBody (content_of told.0 ++ at.0) w) (sym y.3)
    (chain-goes limit 0 b extra at.0 told.0 y.0 y.1 at.1 y.2))
body-goes limit Missing b extra c v x y = absurd x
body-goes limit Wrong b extra c v x y = absurd x

-- ---- a message under way

abbrev GoesTold : HttpMessage → Told → Type 0
GoesTold m (tells state) = StillUnderWay m state
GoesTold m (message k r) = Continues m (message_value k)

goes-told : (h : Head) (c : List ℕ) (v : BodyTold) → GoesBody c v → GoesTold (with_body (head_value h) c) (told_of h v)
goes-told h c (fails why) x = tt
goes-told h c (begun d) x = (x.0, ap (λ (t : List ℕ). with_body (head_value h) t) x.1)
goes-told h c (whole body r) x = (x.0, ap (λ (t : List ℕ). with_body (head_value h) t) x.1)

message-goes : (side : Side) (limit : ℕ) (b extra : List ℕ) (m : HttpMessage) (t : Told) → IsMessageBegun side limit b m → ToldIs side limit (b ++ extra) t → GoesTold m t
message-goes side limit b extra m t x (inl y) = absurd (case-there side (b ++ extra) y.0 x.head (x.after ++ extra) y.1 (fitting-longer side b extra x.head x.after x.reads))
message-goes side limit b extra m t x (inr y) =
    let e = one-head side (b ++ extra) y.0 x.head y.1 (x.after ++ extra) y.3.reads (fitting-longer side b extra x.head x.after x.reads).reads in
    let at : BodyIs limit (form_of side x.head) (x.after ++ extra) y.2 =
    subst (λ (r : List ℕ). BodyIs limit (form_of side x.head) r y.2) e.1 (subst (λ (h : Head). BodyIs limit (form_of side h) y.1 y.2) e.0 y.4) in
    let goes = goes-told x.head x.content y.2 (body-goes limit (form_of side x.head) x.after extra x.content y.2 x.body at) in
    subst (λ (n : HttpMessage). GoesTold n t) (sym x.value) (subst (λ (s : Told). GoesTold (with_body (head_value x.head) x.content) s) (sym (y.5 ∙ ap (λ (h : Head). told_of h y.2) e.0)) goes)

-- A message under way is the next of a longer stream, with more of its body; or it is still under way, or reading of it fails.
pub under-way : (side : Side) (limit : ℕ) (b more : List ℕ) (ms ks : List HttpMessage) (m : HttpMessage) (t : Rest) → Reads side limit b ms (Open (Some m)) → Reads side limit (b ++ more) ks t
    → ((now : HttpMessage) × (later : List HttpMessage) × Continues m now × (ks ≡ ms ++ now ∷ later)) ⊎ ((ks ≡ ms) × StillUnderWay m t)
under-way side limit b more ms ks m t x y = by on.0 on.1 on.2 on.3
  where
    z : Begins side limit (b ++ more) ms (x.rest ++ more)
    z = begins-longer side limit b more ms x.rest x.begins

    on : (later : List Message) × (y.begins.written ≡ z.written ++ later) × (x.rest ++ more ≡ print_messages later ++ y.rest) × All (IsMessage side limit) later
    on = goes-on side limit (b ++ more) z.written y.begins.written (x.rest ++ more) y.rest z.each y.begins.each z.parts y.begins.parts (rest-without side limit y.rest t y.is_rest)

    by : (l : List Message) → y.begins.written ≡ z.written ++ l → x.rest ++ more ≡ print_messages l ++ y.rest → All (IsMessage side limit) l
        → ((now : HttpMessage) × (later : List HttpMessage) × Continues m now × (ks ≡ ms ++ now ∷ later)) ⊎ ((ks ≡ ms) × StillUnderWay m t)
    by [] e f each = inr (
      sym y.begins.told ∙ ap (λ (l : List Message). map message_value l) (e ∙ append-nil z.written) ∙ z.told,
      message-goes side limit x.rest more m (tells t) x.is_rest (rest-told side limit (x.rest ++ more) t (subst (λ (r : List ℕ). RestIs side limit r t) (sym f) y.is_rest)),
    )
    by (k ∷ l) e f each = inl (
      message_value k,
      map message_value l,
      message-goes side limit x.rest more m (message k (print_messages l ++ y.rest)) x.is_rest
          (message-told side limit (x.rest ++ more) k (print_messages l ++ y.rest) (All-head (IsMessage side limit) k l each) (f ∙ front-part k l y.rest)),
      sym y.begins.told ∙ ap (λ (l : List Message). map message_value l) e ∙ map-append message_value z.written (k ∷ l)
          ∙ ap (λ (w : List HttpMessage). w ++ map message_value (k ∷ l)) z.told,
    )
