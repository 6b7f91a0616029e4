-- Of the bytes of a stream one thing is told.
use Rattle.std.proofs.Common.{◌≡◌, ℕ, ◌+◌, ◌<◌, ◌≤◌, ◌⊎◌, List, [], ◌∷◌, ◌++◌, length, map, refl, sym, ap, ◌∙◌, subst, arith, append_assoc, append-nil, inl, inr, length-append, All, Some, None}
use Rattle.std.proofs.lemmas.List.Elements.{All-head, All-tail}
use Rattle.httparse.specs.Grammar.{print_section, print_chunk_line}
use Rattle.edge_heads.specs.declared.TheConstants.{HEAD_LIMIT}
use Rattle.edge_heads.specs.declared.values.Side.{Side}
use Rattle.edge_heads.specs.declared.values.BodyForm.{BodyForm}
use Rattle.edge_heads.specs.declared.values.BodyForm.TheVariants.{Sized, Chunked, Missing, Wrong}
use Rattle.edge_heads.specs.declared.values.HttpFail.{HttpFail}
use Rattle.edge_heads.specs.declared.values.HttpFail.TheVariants.{BadHead, HeadTooLong, TooManyHeaders, NoLength, BadChunk, BodyTooLarge, NoMemory}
use Rattle.edge_http.specs.declared.messages.HttpMessage.{HttpMessage}
use Rattle.edge_heads.specs.Heads.{Head, print_head, head_part, HasAllLines, IsNoHead, IsBegun, IsFittingHead, form_of, head_value}
use Rattle.edge_heads.specs.Bodies.{Chunk, print_chunks, content_of, AreChunks, Body, plain, chunked, print_body, IsBody, IsBadChunk, IsLargeChunk}
use Rattle.edge_http.specs.Streams.{Message, print_message, print_messages, IsMessage, with_body, message_value, HasForm, HasChunks, IsBodyBegun, Rest, Open, Failed, RestIs, Begins, Reads, IsHttpStream, HttpStreamFault}
use Rattle.edge_heads.specs.Heads.{IsHeadBegun}
use Rattle.std.proofs.lemmas.List.{map-append}
use Rattle.edge_http.proofs.StayLaws.{begins-longer, fault-stays}
use Rattle.edge_heads.proofs.HeadLaws.{one-head, begun-or-there, never-or-there, begun-or-never}
use Rattle.edge_http.proofs.ChunkLaws.{same-front, Mark, open_with, wrong, too_large, done, next, MarkIs, mark-begun, mark-bad, mark-large, mark-done, IsEnd, Chain, chain-unique, chain-of}

-- ---- bodies

-- what the bytes after a head are: a failure, less than the body, or the body and a rest
pub data BodyTold : Type 0 where
  fails : HttpFail → BodyTold
  begun : List ℕ → BodyTold
  whole : Body → List ℕ → BodyTold

abbrev pub told_by : List Chunk → Mark → BodyTold
told_by cs (open_with c) = begun (content_of cs ++ c)
told_by cs wrong = fails BadChunk
told_by cs too_large = fails BodyTooLarge
told_by cs (done l t r) = whole (chunked cs l t.0 t.1) r
told_by cs (next c r) = fails BadChunk

abbrev pub SizedIs : ℕ → ℕ → List ℕ → BodyTold → Type 0
SizedIs limit n b (fails why) = (limit < n) × (why ≡ BodyTooLarge)
SizedIs limit n b (begun c) = (n ≤ limit) × (length b < n) × (c ≡ b)
SizedIs limit n b (whole (plain c) r) = (n ≤ limit) × (length c ≡ n) × (b ≡ c ++ r)
SizedIs limit n b (whole (chunked cs l fs e) r) = ⊥

abbrev pub BodyIs : ℕ → BodyForm → List ℕ → BodyTold → Type 0
BodyIs limit (Sized n) b v = SizedIs limit n b v
BodyIs limit Chunked b v = (cs : List Chunk) × (m : Mark) × Chain limit 0 b cs m × (v ≡ told_by cs m)
BodyIs limit Missing b v = v ≡ fails NoLength
BodyIs limit Wrong b v = v ≡ fails BadHead

short-whole : (n : ℕ) (b c r : List ℕ) → length b < n → length c ≡ n → b ≡ c ++ r → ⊥
short-whole n b c r less len e =
    let z : length b ≡ length c + length r = ap length e ∙ length-append c r in omega arith

sized-unique : (limit n : ℕ) (b : List ℕ) (v w : BodyTold) → SizedIs limit n b v → SizedIs limit n b w → v ≡ w
sized-unique limit n b (fails v) (fails w) x y = ap fails (x.1 ∙ sym y.1)
sized-unique limit n b (fails v) (begun c) x y =
    let p : limit < n = x.0 in
    let q : n ≤ limit = y.0 in absurd (omega arith)
sized-unique limit n b (fails v) (whole (plain c) r) x y =
    let p : limit < n = x.0 in
    let q : n ≤ limit = y.0 in absurd (omega arith)
sized-unique limit n b (fails v) (whole (chunked cs l fs e) r) x y = absurd y
sized-unique limit n b (begun c) (fails w) x y =
    let p : limit < n = y.0 in
    let q : n ≤ limit = x.0 in absurd (omega arith)
sized-unique limit n b (begun c) (begun d) x y = ap begun (x.2 ∙ sym y.2)
sized-unique limit n b (begun c) (whole (plain d) r) x y = absurd (short-whole n b d r x.1 y.1 y.2)
sized-unique limit n b (begun c) (whole (chunked cs l fs e) r) x y = absurd y
sized-unique limit n b (whole (plain c) r) (fails w) x y =
    let p : limit < n = y.0 in
    let q : n ≤ limit = x.0 in absurd (omega arith)
sized-unique limit n b (whole (plain d) r) (begun c) x y = absurd (short-whole n b d r y.1 x.1 x.2)
sized-unique limit n b (whole (plain c) r) (whole (plain d) q) x y =
    let e = same-front c d r q (x.1 ∙ sym y.1) (sym x.2 ∙ y.2) in λ i. whole (plain (e.0 i)) (e.1 i)
sized-unique limit n b (whole (plain c) r) (whole (chunked cs l fs e) q) x y = absurd y
sized-unique limit n b (whole (chunked cs l fs e) r) w x y = absurd x

pub body-unique : (limit : ℕ) (form : BodyForm) (b : List ℕ) (v w : BodyTold) → BodyIs limit form b v → BodyIs limit form b w → v ≡ w
body-unique limit (Sized n) b v w x y = sized-unique limit n b v w x y
body-unique limit Chunked b v w x y =
    let e = chain-unique limit 0 b x.0 y.0 x.1 y.1 x.2 y.2 in
    x.3 ∙ (λ i. told_by (e.0 i) (e.1 i)) ∙ sym y.3
body-unique limit Missing b v w x y = x ∙ sym y
body-unique limit Wrong b v w x y = x ∙ sym y

chunks-told : (limit : ℕ) (b tail : List ℕ) (cs : List Chunk) (m : Mark) → AreChunks limit cs → b ≡ print_chunks cs ++ tail → MarkIs limit (length (content_of cs)) tail m → IsEnd m
    → BodyIs limit Chunked b (told_by cs m)
chunks-told limit b tail cs m are e x end =
    let within : length (content_of cs) ≤ limit = are.within in
    let z : length (content_of cs) ≡ 0 + length (content_of cs) = omega arith in
    (cs, m, chain-of limit 0 b cs tail m are.each (omega arith) e (subst (λ (n : ℕ). MarkIs limit n tail m) z x) end, refl)

pub whole-told : (limit : ℕ) (form : BodyForm) (body : Body) (rest : List ℕ) → IsBody limit form body → BodyIs limit form (print_body body ++ rest) (whole body rest)
whole-told limit (Sized n) (plain c) rest x = (x.1, x.0, refl)
whole-told limit (Sized n) (chunked cs l fs e) rest x = absurd x
whole-told limit Chunked (plain c) rest x = absurd x
whole-told limit Chunked (chunked cs l fs e) rest x =
    let tail = print_chunk_line l ++ (print_section fs e ++ rest) in
    let parts : (print_chunks cs ++ (print_chunk_line l ++ print_section fs e)) ++ rest ≡ print_chunks cs ++ tail = simp append_assoc in
    chunks-told limit _ tail cs (done l (fs, e) rest) x.0 parts (mark-done limit (length (content_of cs)) tail l fs e rest x.0.within x.1 x.2 refl) tt
whole-told limit Missing body rest x = absurd x
whole-told limit Wrong body rest x = absurd x

pub begun-told : (limit : ℕ) (form : BodyForm) (b c : List ℕ) → IsBodyBegun limit form b c → BodyIs limit form b (begun c)
begun-told limit (Sized n) b c x = x
begun-told limit Chunked b c x =
    let are = x.3 in
    subst (λ (t : List ℕ). BodyIs limit Chunked b (begun t)) (sym x.6)
    (chunks-told limit b x.1 x.0 (open_with x.2) are x.4 (mark-begun limit (length (content_of x.0)) x.1 x.2 are.within x.5) tt)
begun-told limit Missing b c x = absurd x
begun-told limit Wrong b c x = absurd x

-- ---- messages

-- what bytes at the start of a message are
pub data Told : Type 0 where
  tells : Rest → Told
  message : Message → List ℕ → Told

-- no head within the limits
abbrev pub NoHeadIs : Side → List ℕ → Rest → Type 0
NoHeadIs side b (Open None) = IsHeadBegun side b
NoHeadIs side b (Open (Some m)) = ⊥
NoHeadIs side b (Failed BadHead) = IsNoHead side (head_part b)
NoHeadIs side b (Failed HeadTooLong) = IsBegun side (head_part b) × (length (head_part b) ≡ HEAD_LIMIT)
NoHeadIs side b (Failed TooManyHeaders) = IsBegun side (head_part b) × (length (head_part b) < HEAD_LIMIT) × HasAllLines b
NoHeadIs side b (Failed NoLength) = ⊥
NoHeadIs side b (Failed BadChunk) = ⊥
NoHeadIs side b (Failed BodyTooLarge) = ⊥
NoHeadIs side b (Failed NoMemory) = ⊥

-- where no head is, one is begun or none can come, and which of the three begun ones holds
pub data HeadCase : Type 0 where
  waiting : HeadCase
  impossible : HeadCase
  long : HeadCase
  many : HeadCase

abbrev pub HeadCaseIs : Side → List ℕ → HeadCase → Type 0
HeadCaseIs side b waiting = IsHeadBegun side b
HeadCaseIs side b impossible = IsNoHead side (head_part b)
HeadCaseIs side b long = IsBegun side (head_part b) × (length (head_part b) ≡ HEAD_LIMIT)
HeadCaseIs side b many = IsBegun side (head_part b) × (length (head_part b) < HEAD_LIMIT) × HasAllLines b

abbrev pub rest_of_case : HeadCase → Rest
rest_of_case waiting = Open None
rest_of_case impossible = Failed BadHead
rest_of_case long = Failed HeadTooLong
rest_of_case many = Failed TooManyHeaders

equal-less : (a b : ℕ) → a ≡ b → a < b → ⊥
equal-less a b e h = omega arith

case-unique : (side : Side) (b : List ℕ) (v w : HeadCase) → HeadCaseIs side b v → HeadCaseIs side b w → v ≡ w
case-unique side b waiting waiting x y = refl
case-unique side b waiting impossible x y = absurd (begun-or-never side (head_part b) x.begun y)
case-unique side b waiting long x y = absurd (equal-less (length (head_part b)) HEAD_LIMIT y.1 x.short)
case-unique side b waiting many x y = absurd (x.lines y.2)
case-unique side b impossible waiting x y = absurd (begun-or-never side (head_part b) y.begun x)
case-unique side b impossible impossible x y = refl
case-unique side b impossible long x y = absurd (begun-or-never side (head_part b) y.0 x)
case-unique side b impossible many x y = absurd (begun-or-never side (head_part b) y.0 x)
case-unique side b long waiting x y = absurd (equal-less (length (head_part b)) HEAD_LIMIT x.1 y.short)
case-unique side b long impossible x y = absurd (begun-or-never side (head_part b) x.0 y)
case-unique side b long long x y = refl
case-unique side b long many x y = absurd (equal-less (length (head_part b)) HEAD_LIMIT x.1 y.1)
case-unique side b many waiting x y = absurd (y.lines x.2)
case-unique side b many impossible x y = absurd (begun-or-never side (head_part b) x.0 y)
case-unique side b many long x y = absurd (equal-less (length (head_part b)) HEAD_LIMIT y.1 x.1)
case-unique side b many many x y = refl

pub case-there : (side : Side) (b : List ℕ) (v : HeadCase) (h : Head) (r : List ℕ) → HeadCaseIs side b v → IsFittingHead side b h r → ⊥
case-there side b waiting h r x y = begun-or-there side b h r y x.begun
case-there side b impossible h r x y = never-or-there side b h r y x
case-there side b long h r x y = begun-or-there side b h r y x.0
case-there side b many h r x y = begun-or-there side b h r y x.0

abbrev pub told_of : Head → BodyTold → Told
told_of h (fails why) = tells (Failed why)
told_of h (begun c) = tells (Open (Some (with_body (head_value h) c)))
told_of h (whole body r) = message (record { head = h; body = body }) r

abbrev pub ToldIs : Side → ℕ → List ℕ → Told → Type 0
ToldIs side limit b t =
    ((v : HeadCase) × HeadCaseIs side b v × (t ≡ tells (rest_of_case v)))
    ⊎ ((h : Head) × (after : List ℕ) × (v : BodyTold) × IsFittingHead side b h after × BodyIs limit (form_of side h) after v × (t ≡ told_of h v))

pub told-unique : (side : Side) (limit : ℕ) (b : List ℕ) (t s : Told) → ToldIs side limit b t → ToldIs side limit b s → t ≡ s
told-unique side limit b t s (inl x) (inl y) = x.2 ∙ ap (λ (v : HeadCase). tells (rest_of_case v)) (case-unique side b x.0 y.0 x.1 y.1) ∙ sym y.2
told-unique side limit b t s (inl x) (inr y) = absurd (case-there side b x.0 y.0 y.1 x.1 y.3)
told-unique side limit b t s (inr x) (inl y) = absurd (case-there side b y.0 x.0 x.1 y.1 x.3)
told-unique side limit b t s (inr x) (inr y) =
    let e = one-head side b x.0 y.0 x.1 y.1 x.3.reads y.3.reads in
    let at : BodyIs limit (form_of side y.0) y.1 x.2 =
    subst (λ (r : List ℕ). BodyIs limit (form_of side y.0) r x.2) e.1 (subst (λ (h : Head). BodyIs limit (form_of side h) x.1 x.2) e.0 x.4) in
    let f : x.2 ≡ y.2 = body-unique limit (form_of side y.0) y.1 x.2 y.2 at y.4 in
    x.5 ∙ (λ i. told_of (e.0 i) (f i)) ∙ sym y.5

form-told : (side : Side) (limit : ℕ) (b : List ℕ) (form : BodyForm) (why : HttpFail) (x : HasForm side b form) → ((r : List ℕ) → BodyIs limit form r (fails why)) → ToldIs side limit b (tells (Failed why))
form-told side limit b form why x f = inr (x.0, x.1, fails why, x.2, subst (λ (g : BodyForm). BodyIs limit g x.1 (fails why)) (sym x.3) (f x.1), refl)

chunks-fail : (side : Side) (limit : ℕ) (b : List ℕ) (Then : ℕ → List ℕ → Type 0) (m : Mark) (why : HttpFail) (x : HasChunks side limit b Then)
    → MarkIs limit (length (content_of x.chunks)) x.tail m → IsEnd m → told_by x.chunks m ≡ fails why → ToldIs side limit b (tells (Failed why))
chunks-fail side limit b Then m why x mark end e =
    let told : BodyIs limit Chunked x.after (fails why) = subst (λ (v : BodyTold). BodyIs limit Chunked x.after v) e (chunks-told limit x.after x.tail x.chunks m x.are x.parts mark end) in
    inr (x.head, x.after, fails why, x.reads, subst (λ (g : BodyForm). BodyIs limit g x.after (fails why)) (sym x.form) told, refl)

pub rest-told : (side : Side) (limit : ℕ) (b : List ℕ) (state : Rest) → RestIs side limit b state → ToldIs side limit b (tells state)
rest-told side limit b (Open None) x = inl (waiting, x, refl)
rest-told side limit b (Open (Some m)) x =
    inr (x.head, x.after, begun x.content, x.reads, begun-told limit (form_of side x.head) x.after x.content x.body, ap (λ (k : HttpMessage). tells (Open (Some k))) x.value)
rest-told side limit b (Failed BadHead) (inl x) = inl (impossible, x, refl)
rest-told side limit b (Failed BadHead) (inr x) = form-told side limit b Wrong BadHead x (λ r. refl)
rest-told side limit b (Failed HeadTooLong) x = inl (long, x, refl)
rest-told side limit b (Failed TooManyHeaders) x = inl (many, x, refl)
rest-told side limit b (Failed NoLength) x = form-told side limit b Missing NoLength x (λ r. refl)
rest-told side limit b (Failed BadChunk) x =
    chunks-fail side limit b (IsBadChunk limit) wrong BadChunk x (mark-bad limit (length (content_of x.chunks)) x.tail x.are.within x.holds) tt refl
rest-told side limit b (Failed BodyTooLarge) (inl x) = form-told side limit b (Sized x.0) BodyTooLarge x.1 (λ r. (x.2, refl))
rest-told side limit b (Failed BodyTooLarge) (inr x) =
    chunks-fail side limit b (IsLargeChunk limit) too_large BodyTooLarge x (mark-large limit (length (content_of x.chunks)) x.tail x.are.within x.holds) tt refl
rest-told side limit b (Failed NoMemory) x = absurd x

pub message-told : (side : Side) (limit : ℕ) (b : List ℕ) (m : Message) (rest : List ℕ) → IsMessage side limit m → b ≡ print_message m ++ rest → ToldIs side limit b (message m rest)
unfolding print_message
message-told side limit b m rest x e =
    let after = print_body m.body ++ rest in
    inr (
      m.head,
      after,
      whole m.body rest,
      record { reads = (x.head, e ∙ append_assoc (print_head m.head) (print_body m.body) rest); fits = x.fits },
      whole-told limit (form_of side m.head) m.body rest x.body,
      refl,
    )

-- ---- streams

pub message-unique : (side : Side) (limit : ℕ) (b : List ℕ) (m k : Message) (r q : List ℕ) → IsMessage side limit m → IsMessage side limit k
    → b ≡ print_message m ++ r → b ≡ print_message k ++ q → (m ≡ k) × (r ≡ q)
message-unique side limit b m k r q x y e f =
    let same : message m r ≡ message k q = told-unique side limit b (message m r) (message k q) (message-told side limit b m r x e) (message-told side limit b k q y f) in (cc, cc)

pub message-or-rest : (side : Side) (limit : ℕ) (b : List ℕ) (m : Message) (r : List ℕ) (state : Rest) → IsMessage side limit m → b ≡ print_message m ++ r → RestIs side limit b state → ⊥
message-or-rest side limit b m r state x e y =
    let same : message m r ≡ tells state = told-unique side limit b (message m r) (tells state) (message-told side limit b m r x e) (rest-told side limit b state y) in absurd (cc)

pub rest-unique : (side : Side) (limit : ℕ) (b : List ℕ) (s t : Rest) → RestIs side limit b s → RestIs side limit b t → s ≡ t
rest-unique side limit b s t x y =
    let same : tells s ≡ tells t = told-unique side limit b (tells s) (tells t) (rest-told side limit b s x) (rest-told side limit b t y) in cc

pub front-part : (m : Message) (ms : List Message) (r : List ℕ) → print_messages (m ∷ ms) ++ r ≡ print_message m ++ (print_messages ms ++ r)
front-part m ms r = append_assoc (print_message m) (print_messages ms) r

-- no message begins the bytes
abbrev pub NoMessage : Side → ℕ → List ℕ → Type 0
NoMessage side limit b = (m : Message) (more : List ℕ) → IsMessage side limit m → ¬ (b ≡ print_message m ++ more)

pub rest-without : (side : Side) (limit : ℕ) (b : List ℕ) (state : Rest) → RestIs side limit b state → NoMessage side limit b
rest-without side limit b state x m more is e = message-or-rest side limit b m more state is e x

-- Where the bytes begin with messages, all messages of them do.
pub goes-on : (side : Side) (limit : ℕ) (b : List ℕ) (ms ks : List Message) (r q : List ℕ)
    → All (IsMessage side limit) ms → All (IsMessage side limit) ks → b ≡ print_messages ms ++ r → b ≡ print_messages ks ++ q → NoMessage side limit q
    → (more : List Message) × (ks ≡ ms ++ more) × (r ≡ print_messages more ++ q) × All (IsMessage side limit) more
goes-on side limit b [] ks r q all each e f none = (ks, refl, sym e ∙ f, each)
goes-on side limit b (m ∷ ms) [] r q all each e f none =
    absurd (none m (print_messages ms ++ r) (All-head (IsMessage side limit) m ms all) (sym f ∙ e ∙ front-part m ms r))
goes-on side limit b (m ∷ ms) (k ∷ ks) r q all each e f none =
    let same = message-unique side limit b m k (print_messages ms ++ r) (print_messages ks ++ q)
    (All-head (IsMessage side limit) m ms all) (All-head (IsMessage side limit) k ks each) (e ∙ front-part m ms r) (f ∙ front-part k ks q) in
    let on = goes-on side limit (print_messages ms ++ r) ms ks r q (All-tail (IsMessage side limit) m ms all) (All-tail (IsMessage side limit) k ks each) refl same.1 none in
    (on.0, (λ i. sym same.0 i ∷ on.1 i), on.2, on.3)

no-more : (side : Side) (limit : ℕ) (r q : List ℕ) (more : List Message) → NoMessage side limit r → All (IsMessage side limit) more → r ≡ print_messages more ++ q → more ≡ []
no-more side limit r q [] none each e = refl
no-more side limit r q (m ∷ more) none each e =
    absurd (none m (print_messages more ++ q) (All-head (IsMessage side limit) m more each) (e ∙ front-part m more q))

pub one-stream : (side : Side) (limit : ℕ) (b : List ℕ) (ms ks : List HttpMessage) (r q : List ℕ) → IsHttpStream side limit b ms r → IsHttpStream side limit b ks q → (ms ≡ ks) × (r ≡ q)
one-stream side limit b ms ks r q x y =
    let on = goes-on side limit b x.0.written y.0.written r q x.0.each y.0.each x.0.parts y.0.parts y.1 in
    let none = no-more side limit r q on.0 x.1 on.3 on.2 in
    let same : y.0.written ≡ x.0.written = on.1 ∙ ap (λ (t : List Message). x.0.written ++ t) none ∙ append-nil x.0.written in
    (sym x.0.told ∙ ap (λ (t : List Message). map message_value t) (sym same) ∙ y.0.told, on.2 ∙ ap (λ (t : List Message). print_messages t ++ q) none)

pub is-stream : (side : Side) (limit : ℕ) (b : List ℕ) (ms : List HttpMessage) (state : Rest) → (x : Reads side limit b ms state) → IsHttpStream side limit b ms x.rest
is-stream side limit b ms state x = (x.begins, rest-without side limit x.rest state x.is_rest)

-- One reading of bytes holds.
pub one-reading : (side : Side) (limit : ℕ) (b : List ℕ) (ms ks : List HttpMessage) (s t : Rest) → Reads side limit b ms s → Reads side limit b ks t → (ms ≡ ks) × (s ≡ t)
one-reading side limit b ms ks s t x y =
    let same = one-stream side limit b ms ks x.rest y.rest (is-stream side limit b ms s x) (is-stream side limit b ks t y) in
    (same.0, rest-unique side limit y.rest s t (subst (λ (r : List ℕ). RestIs side limit r s) same.1 x.is_rest) y.is_rest)

-- What a longer stream has begins with what the shorter one had.
pub reads-on : (side : Side) (limit : ℕ) (b more : List ℕ) (ms ks : List HttpMessage) (r : List ℕ) (t : Rest) → Begins side limit b ms r → Reads side limit (b ++ more) ks t
    → (later : List HttpMessage) × (ks ≡ ms ++ later)
reads-on side limit b more ms ks r t x y =
    let z = begins-longer side limit b more ms r x in
    let on = goes-on side limit (b ++ more) z.written y.begins.written (r ++ more) y.rest z.each y.begins.each z.parts y.begins.parts (rest-without side limit y.rest t y.is_rest) in (
      map message_value on.0,
      sym y.begins.told ∙ ap (λ (l : List Message). map message_value l) on.1 ∙ map-append message_value z.written on.0
          ∙ ap (λ (l : List HttpMessage). l ++ map message_value on.0) z.told,
    )

-- Of a stream one fault is told, however long it is.
pub one-fault : (side : Side) (limit : ℕ) (b more : List ℕ) (why other : HttpFail) → HttpStreamFault side limit b why → HttpStreamFault side limit (b ++ more) other → why ≡ other
one-fault side limit b more why other x y =
    let same : Failed why ≡ Failed other =
    (one-reading side limit (b ++ more) x.0 y.0 (Failed why) (Failed other) (fault-stays side limit b more x.0 why x.1) y.1).1 in cc

-- ---- one body

pub body-there : (limit : ℕ) (form : BodyForm) (a b : Body) (r q : List ℕ) → IsBody limit form a → IsBody limit form b → print_body a ++ r ≡ print_body b ++ q → (a ≡ b) × (r ≡ q)
body-there limit form a b r q x y e =
    let same : whole a r ≡ whole b q = body-unique limit form (print_body b ++ q) (whole a r) (whole b q)
    (subst (λ (t : List ℕ). BodyIs limit form t (whole a r)) e (whole-told limit form a r x)) (whole-told limit form b q y) in (cc, cc)

pub body-begun : (limit : ℕ) (form : BodyForm) (b c d : List ℕ) → IsBodyBegun limit form b c → IsBodyBegun limit form b d → c ≡ d
body-begun limit form b c d x y =
    let same : begun c ≡ begun d = body-unique limit form b (begun c) (begun d) (begun-told limit form b c x) (begun-told limit form b d y) in cc

pub body-apart : (limit : ℕ) (form : BodyForm) (body : Body) (rest c : List ℕ) → IsBody limit form body → IsBodyBegun limit form (print_body body ++ rest) c → ⊥
body-apart limit form body rest c x y =
    let same : whole body rest ≡ begun c = body-unique limit form (print_body body ++ rest) (whole body rest) (begun c)
    (whole-told limit form body rest x) (begun-told limit form (print_body body ++ rest) c y) in absurd (cc)
