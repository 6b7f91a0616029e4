-- Of the bytes of a chunked body one thing is told.
use Rattle.std.proofs.Common.{◌≡◌, ℕ, ◌+◌, ◌<◌, ◌≤◌, List, [], ◌∷◌, ◌++◌, length, refl, sym, ap, ◌∙◌, subst, arith, append_assoc, append-nil, inl, inr, length-append, All}
use Rattle.std.specs.Prelude.{⊤}
use Rattle.std.proofs.lemmas.List.Elements.{All-head, All-tail}
use Rattle.httparse.specs.Ascii.{crlf_bytes}
use Rattle.httparse.specs.Grammar.{LineEnd, Field, print_section, ChunkLine, print_chunk_line, chunk_size}
use Rattle.httparse.proofs.GrammarLemmas.{section_unique}
use Rattle.httparse.proofs.ChunkLemmas.{chunk_line_unique}
use Rattle.edge_heads.specs.declared.TheConstants.{HEAD_LIMIT}
use Rattle.edge_heads.specs.Bodies.{Chunk, print_chunk, print_chunks, content_of, IsChunk, BeginsSize, IsSizeBegun, IsNoSize, IsLastLine, IsTrailer, IsTrailerBegun, IsNoTrailer, NeverEnds, IsEndBegun, IsBadChunk, IsLargeChunk, IsChunkBegun}

-- What stands at the front: not all of it yet, or it can't come, or this and then a rest.
pub data Front (A : Type 0) : Type 0 where
  waits : Front A
  never : Front A
  there : A → List ℕ → Front A

-- ---- two texts of one length

pub same-front : (a b r q : List ℕ) → length a ≡ length b → a ++ r ≡ b ++ q → (a ≡ b) × (r ≡ q)
same-front [] [] r q len e = (refl, e)
same-front [] (y ∷ b) r q len e = absurd (cc)
same-front (x ∷ a) [] r q len e = absurd (cc)
same-front (x ∷ a) (y ∷ b) r q len e =
    let tails : a ++ r ≡ b ++ q = cc in
    let lens : length a ≡ length b = cc in
    let heads : x ≡ y = cc in
    let more = same-front a b r q lens tails in ((λ i. heads i ∷ more.0 i), more.1)

-- ---- size lines

abbrev pub SizeIs : List ℕ → Front ChunkLine → Type 0
SizeIs b waits = IsSizeBegun b
SizeIs b never = IsNoSize b
SizeIs b (there l r) = BeginsSize l b r

size-begun-never : (b : List ℕ) → IsSizeBegun b → IsNoSize b → ⊥
size-begun-never b x (inl none) = none x.can.0 x.can.1 [] x.can.2
size-begun-never b x (inr long) =
    let low : length b < HEAD_LIMIT = x.short in
    let high : HEAD_LIMIT ≤ length b = long.0 in omega arith

pub size-there-never : (b : List ℕ) (l : ChunkLine) (r : List ℕ) → BeginsSize l b r → IsNoSize b → ⊥
size-there-never b l r x (inl none) = none [] l r (x.0.is_line, append-nil b ∙ x.1)
size-there-never b l r x (inr long) = long.1 l r x

pub size-unique : (b : List ℕ) (v w : Front ChunkLine) → SizeIs b v → SizeIs b w → v ≡ w
size-unique b waits waits x y = refl
size-unique b waits never x y = absurd (size-begun-never b x y)
size-unique b waits (there l r) x y = absurd (x.none l r (y.0.is_line, y.1))
size-unique b never waits x y = absurd (size-begun-never b y x)
size-unique b never never x y = refl
size-unique b never (there l r) x y = absurd (size-there-never b l r y x)
size-unique b (there l r) waits x y = absurd (y.none l r (x.0.is_line, x.1))
size-unique b (there l r) never x y = absurd (size-there-never b l r x y)
size-unique b (there l r) (there k q) x y =
    let e = chunk_line_unique b l k r q (x.0.is_line, x.1) (y.0.is_line, y.1) in λ i. there (e.0 i) (e.1 i)

-- ---- trailers

abbrev pub Trailer : Type 0
Trailer = List Field × LineEnd

abbrev pub TrailerAt : List ℕ → Front Trailer → Type 0
TrailerAt b waits = IsTrailerBegun b
TrailerAt b never = IsNoTrailer b
TrailerAt b (there t r) = IsTrailer t.0 t.1 × (b ≡ print_section t.0 t.1 ++ r)

trailer-begun-never : (b : List ℕ) → IsTrailerBegun b → IsNoTrailer b → ⊥
trailer-begun-never b x (inl none) = none x.can.0 x.can.1 x.can.2 [] x.can.3
trailer-begun-never b x (inr long) =
    let low : length b < HEAD_LIMIT = x.short in
    let high : HEAD_LIMIT ≤ length b = long.0 in omega arith

trailer-there-never : (b : List ℕ) (t : Trailer) (r : List ℕ) → TrailerAt b (there t r) → IsNoTrailer b → ⊥
trailer-there-never b t r x (inl none) = none [] t.0 t.1 r (x.0.each, append-nil b ∙ x.1)
trailer-there-never b t r x (inr long) = long.1 t.0 t.1 r x

pub trailer-unique : (b : List ℕ) (v w : Front Trailer) → TrailerAt b v → TrailerAt b w → v ≡ w
trailer-unique b waits waits x y = refl
trailer-unique b waits never x y = absurd (trailer-begun-never b x y)
trailer-unique b waits (there t r) x y = absurd (x.none t.0 t.1 r (y.0.each, y.1))
trailer-unique b never waits x y = absurd (trailer-begun-never b y x)
trailer-unique b never never x y = refl
trailer-unique b never (there t r) x y = absurd (trailer-there-never b t r y x)
trailer-unique b (there t r) waits x y = absurd (y.none t.0 t.1 r (x.0.each, x.1))
trailer-unique b (there t r) never x y = absurd (trailer-there-never b t r x y)
trailer-unique b (there t r) (there s q) x y =
    let e = section_unique b t.0 s.0 t.1 s.1 r q (x.0.each, x.1) (y.0.each, y.1) in λ i. there (e.0 i, e.1 i) (e.2 i)

-- ---- the ends of chunks

abbrev pub EndAt : List ℕ → Front ⊤ → Type 0
EndAt b waits = IsEndBegun b
EndAt b never = NeverEnds b
EndAt b (there t r) = b ≡ crlf_bytes ++ r

end-begun-never : (b : List ℕ) → IsEndBegun b → NeverEnds b → ⊥
end-begun-never b (inl e) none = none crlf_bytes [] (ap (λ (t : List ℕ). t ++ crlf_bytes) e)
end-begun-never b (inr e) none = none (10 ∷ []) [] (ap (λ (t : List ℕ). t ++ 10 ∷ []) e)

end-begun-there : (b r : List ℕ) → IsEndBegun b → b ≡ crlf_bytes ++ r → ⊥
end-begun-there b r (inl e) x = let z : [] ≡ 13 ∷ 10 ∷ r = sym e ∙ x in absurd (cc)
end-begun-there b r (inr e) x = let z : 13 ∷ [] ≡ 13 ∷ 10 ∷ r = sym e ∙ x in absurd (cc)

pub end-unique : (b : List ℕ) (v w : Front ⊤) → EndAt b v → EndAt b w → v ≡ w
end-unique b waits waits x y = refl
end-unique b waits never x y = absurd (end-begun-never b x y)
end-unique b waits (there t r) x y = absurd (end-begun-there b r x y)
end-unique b never waits x y = absurd (end-begun-never b y x)
end-unique b never never x y = refl
end-unique b never (there t r) x y = absurd (x [] r (append-nil b ∙ y))
end-unique b (there t r) waits x y = absurd (end-begun-there b r y x)
end-unique b (there t r) never x y = absurd (y [] r (append-nil b ∙ x))
end-unique b (there t r) (there s q) x y =
    let e : 13 ∷ 10 ∷ r ≡ 13 ∷ 10 ∷ q = sym x ∙ y in
    let same : r ≡ q = cc in λ i. there tt (same i)

-- ---- what follows a size line

pub data After : Type 0 where
  large : After
  short : List ℕ → After
  full : List ℕ → Front ⊤ → After
  last : Front Trailer → After

abbrev pub AfterIs : ℕ → ℕ → ℕ → List ℕ → After → Type 0
AfterIs limit sum size b large = limit < sum + size
AfterIs limit sum size b (short c) = (sum + size ≤ limit) × (length c < size) × (b ≡ c)
AfterIs limit sum size b (full c end) = (sum + size ≤ limit) × (0 < size) × (length c ≡ size) × (r : List ℕ) × (b ≡ c ++ r) × EndAt r end
AfterIs limit sum size b (last t) = (size ≡ 0) × TrailerAt b t

short-full : (size : ℕ) (b c d r : List ℕ) → length c < size → b ≡ c → length d ≡ size → b ≡ d ++ r → ⊥
short-full size b c d r less e len f =
    let z : length c ≡ length d + length r = ap length (sym e ∙ f) ∙ length-append d r in omega arith

pub after-unique : (limit sum size : ℕ) (b : List ℕ) (v w : After) → sum ≤ limit → AfterIs limit sum size b v → AfterIs limit sum size b w → v ≡ w
after-unique limit sum size b large large h x y = refl
after-unique limit sum size b large (short c) h x y = let z : sum + size ≤ limit = y.0 in absurd (omega arith)
after-unique limit sum size b large (full c end) h x y = let z : sum + size ≤ limit = y.0 in absurd (omega arith)
after-unique limit sum size b large (last t) h x y = let z : size ≡ 0 = y.0 in absurd (omega arith)
after-unique limit sum size b (short c) large h x y = let z : sum + size ≤ limit = x.0 in absurd (omega arith)
after-unique limit sum size b (short c) (short d) h x y = ap short (sym x.2 ∙ y.2)
after-unique limit sum size b (short c) (full d end) h x y = absurd (short-full size b c d y.3 x.1 x.2 y.2 y.4)
after-unique limit sum size b (short c) (last t) h x y =
    let z : size ≡ 0 = y.0 in
    let l : length c < size = x.1 in absurd (omega arith)
after-unique limit sum size b (full c end) large h x y = let z : sum + size ≤ limit = x.0 in absurd (omega arith)
after-unique limit sum size b (full d end) (short c) h x y = absurd (short-full size b c d x.3 y.1 y.2 x.2 x.4)
after-unique limit sum size b (full c end) (full d stop) h x y =
    let e = same-front c d x.3 y.3 (x.2 ∙ sym y.2) (sym x.4 ∙ y.4) in
    let f : end ≡ stop = end-unique y.3 end stop (subst (λ (t : List ℕ). EndAt t end) e.1 x.5) y.5 in
    λ i. full (e.0 i) (f i)
after-unique limit sum size b (full c end) (last t) h x y =
    let z : size ≡ 0 = y.0 in
    let l : 0 < size = x.1 in absurd (omega arith)
after-unique limit sum size b (last t) large h x y = let z : size ≡ 0 = x.0 in absurd (omega arith)
after-unique limit sum size b (last t) (short c) h x y =
    let z : size ≡ 0 = x.0 in
    let l : length c < size = y.1 in absurd (omega arith)
after-unique limit sum size b (last t) (full c end) h x y =
    let z : size ≡ 0 = x.0 in
    let l : 0 < size = y.1 in absurd (omega arith)
after-unique limit sum size b (last t) (last s) h x y = ap last (trailer-unique b t s x.1 y.1)

-- ---- what follows whole chunks

pub data Tail : Type 0 where
  begins : Tail
  bad_size : Tail
  sized : ChunkLine → After → Tail

abbrev pub TailIs : ℕ → ℕ → List ℕ → Tail → Type 0
TailIs limit sum b begins = IsSizeBegun b
TailIs limit sum b bad_size = IsNoSize b
TailIs limit sum b (sized l v) = (r : List ℕ) × BeginsSize l b r × AfterIs limit sum (chunk_size l) r v

pub tail-unique : (limit sum : ℕ) (b : List ℕ) (v w : Tail) → sum ≤ limit → TailIs limit sum b v → TailIs limit sum b w → v ≡ w
tail-unique limit sum b begins begins h x y = refl
tail-unique limit sum b begins bad_size h x y = absurd (size-begun-never b x y)
tail-unique limit sum b begins (sized l v) h x y = absurd (x.none l y.0 (y.1.0.is_line, y.1.1))
tail-unique limit sum b bad_size begins h x y = absurd (size-begun-never b y x)
tail-unique limit sum b bad_size bad_size h x y = refl
tail-unique limit sum b bad_size (sized l v) h x y = absurd (size-there-never b l y.0 y.1 x)
tail-unique limit sum b (sized l v) begins h x y = absurd (y.none l x.0 (x.1.0.is_line, x.1.1))
tail-unique limit sum b (sized l v) bad_size h x y = absurd (size-there-never b l x.0 x.1 y)
tail-unique limit sum b (sized l v) (sized k w) h x y =
    let e = chunk_line_unique b l k x.0 y.0 (x.1.0.is_line, x.1.1) (y.1.0.is_line, y.1.1) in
    let at : AfterIs limit sum (chunk_size k) y.0 v = subst (λ (t : List ℕ). AfterIs limit sum (chunk_size k) t v) e.1 (subst (λ (t : ChunkLine). AfterIs limit sum (chunk_size t) x.0 v) e.0 x.2) in
    let f : v ≡ w = after-unique limit sum (chunk_size k) y.0 v w h at y.2 in
    λ i. sized (e.0 i) (f i)

-- what that says of the body
pub data Mark : Type 0 where
  open_with : List ℕ → Mark
  wrong : Mark
  too_large : Mark
  done : ChunkLine → Trailer → List ℕ → Mark
  next : Chunk → List ℕ → Mark

abbrev pub mark_after : ChunkLine → After → Mark
mark_after l large = too_large
mark_after l (short c) = open_with c
mark_after l (full c waits) = open_with c
mark_after l (full c never) = wrong
mark_after l (full c (there t r)) = next (record { line = l; content = c }) r
mark_after l (last waits) = open_with []
mark_after l (last never) = wrong
mark_after l (last (there t r)) = done l t r

abbrev pub mark_of : Tail → Mark
mark_of begins = open_with []
mark_of bad_size = wrong
mark_of (sized l v) = mark_after l v

abbrev pub MarkIs : ℕ → ℕ → List ℕ → Mark → Type 0
MarkIs limit sum b m = (sum ≤ limit) × (v : Tail) × TailIs limit sum b v × (m ≡ mark_of v)

pub mark-unique : (limit sum : ℕ) (b : List ℕ) (m n : Mark) → MarkIs limit sum b m → MarkIs limit sum b n → m ≡ n
mark-unique limit sum b m n x y = x.3 ∙ ap mark_of (tail-unique limit sum b x.1 y.1 x.0 x.2 y.2) ∙ sym y.3

pub mark-begun : (limit sum : ℕ) (b c : List ℕ) → sum ≤ limit → IsChunkBegun limit sum b c → MarkIs limit sum b (open_with c)
mark-begun limit sum b c h (inl x) = (h, begins, x.0, ap open_with x.1)
mark-begun limit sum b c h (inr (inl x)) = (h, sized x.line (short c), (c, (x.is_line, x.parts), (x.within, x.short, refl)), refl)
mark-begun limit sum b c h (inr (inr (inl x))) =
    let y = x.1 in
    (h, sized y.line (full c waits), (c ++ x.0, (y.is_line, y.parts), (y.within, y.some, y.whole, x.0, refl, x.2)), refl)
mark-begun limit sum b c h (inr (inr (inr x))) =
    let l = x.1.0 in
    (h, sized l (last waits), (x.0, (x.1.1.is_line, x.1.2), (x.1.1.empty, x.2)), ap open_with x.3)

pub mark-bad : (limit sum : ℕ) (b : List ℕ) → sum ≤ limit → IsBadChunk limit sum b → MarkIs limit sum b wrong
mark-bad limit sum b h (inl x) = (h, bad_size, x, refl)
mark-bad limit sum b h (inr (inl x)) =
    let y = x.2 in
    (h, sized y.line (full x.0 never), (x.0 ++ x.1, (y.is_line, y.parts), (y.within, y.some, y.whole, x.1, refl, x.3)), refl)
mark-bad limit sum b h (inr (inr x)) = (h, sized x.1.0 (last never), (x.0, (x.1.1.is_line, x.1.2), (x.1.1.empty, x.2)), refl)

pub mark-large : (limit sum : ℕ) (b : List ℕ) → sum ≤ limit → IsLargeChunk limit sum b → MarkIs limit sum b too_large
mark-large limit sum b h x = (h, sized x.0 large, (x.1, x.2, x.3), refl)

pub mark-done : (limit sum : ℕ) (b : List ℕ) (l : ChunkLine) (fields : List Field) (end : LineEnd) (rest : List ℕ) → sum ≤ limit → IsLastLine l → IsTrailer fields end
    → b ≡ print_chunk_line l ++ (print_section fields end ++ rest) → MarkIs limit sum b (done l (fields, end) rest)
mark-done limit sum b l fields end rest h x y e =
    (h, sized l (last (there (fields, end) rest)), (print_section fields end ++ rest, (x.is_line, e), (x.empty, (y, refl))), refl)

pub mark-more : (limit sum : ℕ) (b : List ℕ) (c : Chunk) (rest : List ℕ) → IsChunk c → sum + length c.content ≤ limit
    → b ≡ print_chunk_line c.line ++ (c.content ++ (crlf_bytes ++ rest)) → MarkIs limit sum b (next c rest)
mark-more limit sum b c rest x h e =
    let size : length c.content ≡ chunk_size c.line = x.size in (
      omega arith,
      sized c.line (full c.content (there tt rest)),
      (c.content ++ (crlf_bytes ++ rest), (x.line, e), (omega arith, x.some, x.size, crlf_bytes ++ rest, refl, refl)),
      refl,
    )

-- ---- chunks in a row

abbrev pub IsEnd : Mark → Type 0
IsEnd (open_with c) = ⊤
IsEnd wrong = ⊤
IsEnd too_large = ⊤
IsEnd (done l t r) = ⊤
IsEnd (next c r) = ⊥

-- the chunks at the front, one after the other, and what is told of the bytes after them
abbrev pub Chain : ℕ → ℕ → List ℕ → List Chunk → Mark → Type 0
Chain limit sum b [] m = MarkIs limit sum b m × IsEnd m
Chain limit sum b (c ∷ cs) m = (rest : List ℕ) × MarkIs limit sum b (next c rest) × Chain limit (sum + length c.content) rest cs m

pub not-end : (m : Mark) (c : Chunk) (r : List ℕ) → m ≡ next c r → IsEnd m → ⊥
not-end m c r e x = subst IsEnd e x

pub chain-unique : (limit sum : ℕ) (b : List ℕ) (cs ds : List Chunk) (m n : Mark) → Chain limit sum b cs m → Chain limit sum b ds n → (cs ≡ ds) × (m ≡ n)
chain-unique limit sum b [] [] m n x y = (refl, mark-unique limit sum b m n x.0 y.0)
chain-unique limit sum b [] (d ∷ ds) m n x y = absurd (not-end m d y.0 (mark-unique limit sum b m (next d y.0) x.0 y.1) x.1)
chain-unique limit sum b (c ∷ cs) [] m n x y = absurd (not-end n c x.0 (mark-unique limit sum b n (next c x.0) y.0 x.1) y.1)
chain-unique limit sum b (c ∷ cs) (d ∷ ds) m n x y =
    let e = mark-unique limit sum b (next c x.0) (next d y.0) x.1 y.1 in
    let chunk : c ≡ d = cc in
    let rest : x.0 ≡ y.0 = cc in
    let at = subst (λ (t : List ℕ). Chain limit (sum + length d.content) t cs m) rest (subst (λ (k : Chunk). Chain limit (sum + length k.content) x.0 cs m) chunk x.2) in
    let more = chain-unique limit (sum + length d.content) y.0 cs ds m n at y.2 in
    ((λ i. chunk i ∷ more.0 i), more.1)

pub chunk-parts : (c : Chunk) (rest : List ℕ) → print_chunk c ++ rest ≡ print_chunk_line c.line ++ (c.content ++ (crlf_bytes ++ rest))
unfolding print_chunk
chunk-parts c rest = append_assoc (print_chunk_line c.line) (c.content ++ crlf_bytes) rest ∙ ap (λ (t : List ℕ). print_chunk_line c.line ++ t) (append_assoc c.content crlf_bytes rest)

pub chain-of : (limit sum : ℕ) (b : List ℕ) (cs : List Chunk) (tail : List ℕ) (m : Mark) → All IsChunk cs → sum + length (content_of cs) ≤ limit → b ≡ print_chunks cs ++ tail
    → MarkIs limit (sum + length (content_of cs)) tail m → IsEnd m → Chain limit sum b cs m
chain-of limit sum b [] tail m all h e x end =
    let z : sum + 0 ≡ sum = omega arith in
    (subst (λ (t : List ℕ). MarkIs limit sum t m) (sym e) (subst (λ (n : ℕ). MarkIs limit n tail m) z x), end)
chain-of limit sum b (c ∷ cs) tail m all h e x end =
    let len : length (content_of (c ∷ cs)) ≡ length c.content + length (content_of cs) = length-append c.content (content_of cs) in
    let total : sum + length (content_of (c ∷ cs)) ≡ (sum + length c.content) + length (content_of cs) = omega arith in
    let rest = print_chunks cs ++ tail in
    let parts : b ≡ print_chunk_line c.line ++ (c.content ++ (crlf_bytes ++ rest)) = e ∙ append_assoc (print_chunk c) (print_chunks cs) tail ∙ chunk-parts c rest in (
      rest,
      mark-more limit sum b c rest (All-head IsChunk c cs all) (omega arith) parts,
      chain-of limit (sum + length c.content) rest cs tail m (All-tail IsChunk c cs all) (omega arith) refl (subst (λ (n : ℕ). MarkIs limit n tail m) total x) end,
    )
