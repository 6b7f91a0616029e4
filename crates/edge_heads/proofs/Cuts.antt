-- What a first part of at most 16,384 bytes tells of the bytes.
use Rattle.std.proofs.Common.{◌≡◌, ℕ, ◌+◌, ◌-◌, ◌*◌, ◌<◌, ◌≤◌, List, [], ◌∷◌, ◌++◌, length, take, drop, sym, ap, ◌∙◌, subst, arith, append_assoc, append-nil, inl, inr, flat_map, length-append, length-take, All}
use Rattle.std.proofs.Math.Seq.{drop-append_seam, take-append-add}
use Rattle.std.proofs.lemmas.List.{take-append-drop, take_all}
use Rattle.std.proofs.lemmas.List.Elements.{All-head, All-tail}
use Rattle.httparse.specs.Grammar.{LineEnd, crlf, lf, print_end, Field, IsField, print_field, print_section, HasNoSection, NeverHasSection, MayBecomeSection, ChunkLine, print_chunk_line, print_extension, HasNoChunkLine, NeverHasChunkLine, MayBecomeChunkLine}
use Rattle.httparse.specs.Spans.{IsChunkLineAt, IsSectionAt, SectionExceeds}
use Rattle.httparse.specs.declared.spans.HeaderSpan.{HeaderSpan}
use Rattle.edge_heads.specs.declared.TheConstants.{HEAD_LIMIT}
use Rattle.edge_heads.specs.Bodies.{IsSizeBegun, IsNoSize, IsTrailerBegun, IsNoTrailer}
use Rattle.edge_heads.specs.Finds.{IsSizeFound, IsTrailerFound}

-- a text at the front of a part is at the front of the bytes
pub grown : (bytes text : List ℕ) (len : ℕ) → len ≡ length text → take HEAD_LIMIT bytes ≡ text ++ drop len (take HEAD_LIMIT bytes)
    → bytes ≡ text ++ drop len bytes
grown bytes text len is e =
    let part = take HEAD_LIMIT bytes in
    let rest = drop len part ++ drop HEAD_LIMIT bytes in
    let whole : bytes ≡ text ++ rest =
    sym (take-append-drop HEAD_LIMIT bytes) ∙ ap (λ (t : List ℕ). t ++ drop HEAD_LIMIT bytes) e ∙ append_assoc text (drop len part) (drop HEAD_LIMIT bytes) in
    let after : drop len bytes ≡ rest =
    ap (λ (n : ℕ). drop n bytes) is ∙ ap (λ (t : List ℕ). drop (length text) t) whole ∙ drop-append_seam text rest in
    whole ∙ ap (λ (t : List ℕ). text ++ t) (sym after)

pub short-part : (bytes text : List ℕ) (rest : List ℕ) → take HEAD_LIMIT bytes ≡ text ++ rest → (length text ≤ HEAD_LIMIT) × (length text ≤ length bytes)
short-part bytes text rest e =
    let a : length (take HEAD_LIMIT bytes) ≡ length text + length rest = ap length e ∙ length-append text rest in
    (omega (arith, length-take HEAD_LIMIT bytes), omega (arith, length-take HEAD_LIMIT bytes))

-- a text of at most 16,384 bytes at the front is at the front of the part
pub cut-front : (bytes text rest : List ℕ) → length text ≤ HEAD_LIMIT → bytes ≡ text ++ rest
    → take HEAD_LIMIT bytes ≡ text ++ take (HEAD_LIMIT - length text) rest
cut-front bytes text rest fits e =
    let sum : HEAD_LIMIT ≡ length text + (HEAD_LIMIT - length text) = omega arith in
    ap (λ (t : List ℕ). take HEAD_LIMIT t) e ∙ ap (λ (n : ℕ). take n (text ++ rest)) sum ∙ take-append-add text rest (HEAD_LIMIT - length text)

pub all-part : (bytes : List ℕ) → length bytes < HEAD_LIMIT → take HEAD_LIMIT bytes ≡ bytes
all-part bytes h = take_all HEAD_LIMIT bytes (omega arith)

grow : (bytes more : List ℕ) → bytes ++ more ≡ take HEAD_LIMIT bytes ++ (drop HEAD_LIMIT bytes ++ more)
grow bytes more = ap (λ (t : List ℕ). t ++ more) (sym (take-append-drop HEAD_LIMIT bytes)) ∙ append_assoc (take HEAD_LIMIT bytes) (drop HEAD_LIMIT bytes) more

-- ---- size lines

line-some : (l : ChunkLine) → 0 < length (print_chunk_line l)
unfolding print_chunk_line
line-some l = omega (arith, length-append (l.digits ++ l.pad ++ print_extension l.extension) (print_end crlf))

section-some : (fields : List Field) (end : LineEnd) → 0 < length (print_section fields end)
section-some fields end = let e = some end in omega (arith, length-append (flat_map print_field fields) (print_end end))
  where
    some : (e : LineEnd) → 0 < length (print_end e)
    some crlf = omega arith
    some lf = omega arith

pub size-found : (bytes : List ℕ) (len size : ℕ) (l : ChunkLine) → IsChunkLineAt (take HEAD_LIMIT bytes) len size l → IsSizeFound bytes len size
size-found bytes len size l x =
    let fits = short-part bytes (print_chunk_line l) _ x.reads.1 in
    let is : len ≡ length (print_chunk_line l) = x.len_is in
    let inside : length (print_chunk_line l) ≤ length bytes = fits.1 in
    record {
      line = l;
      begins = (record { is_line = x.reads.0; fits = fits.0 }, grown bytes (print_chunk_line l) len is x.reads.1);
      size_is = x.size_is;
      len_is = is;
      some = (let low = line-some l in omega arith);
      within = omega arith;
    }

pub size-begun : (bytes : List ℕ) → length bytes < HEAD_LIMIT → HasNoChunkLine (take HEAD_LIMIT bytes) → MayBecomeChunkLine (take HEAD_LIMIT bytes) → IsSizeBegun bytes
size-begun bytes short none can = record {
  none = subst HasNoChunkLine (all-part bytes short) none;
  can = subst MayBecomeChunkLine (all-part bytes short) can;
  short = short;
}

pub size-long : (bytes : List ℕ) → HEAD_LIMIT ≤ length bytes → HasNoChunkLine (take HEAD_LIMIT bytes) → IsNoSize bytes
size-long bytes long none = inr (long, λ l rest x. none l _ (x.0.is_line, cut-front bytes (print_chunk_line l) rest x.0.fits x.1))

pub size-never : (bytes : List ℕ) → NeverHasChunkLine (take HEAD_LIMIT bytes) → IsNoSize bytes
size-never bytes never = inl (λ more l rest x. never (drop HEAD_LIMIT bytes ++ more) l rest (x.0, sym (grow bytes more) ∙ x.1))

-- ---- trailers

pub trailer-found : (bytes : List ℕ) (headers : List HeaderSpan) (len count : ℕ) (fields : List Field) (last : LineEnd)
    → IsSectionAt (take HEAD_LIMIT bytes) 0 headers len count fields last → IsTrailerFound bytes len
trailer-found bytes headers len count fields last x =
    let fits = short-part bytes (print_section fields last) _ x.reads.1 in
    let is : len ≡ length (print_section fields last) = x.len_is ∙ (let z : 0 + length (print_section fields last) ≡ length (print_section fields last) = omega arith in z) in
    let inside : length (print_section fields last) ≤ length bytes = fits.1 in
    record {
      fields = fields;
      end = last;
      is_trailer = record { each = x.reads.0; fits = fits.0 };
      parts = grown bytes (print_section fields last) len is x.reads.1;
      len_is = is;
      some = (let low = section-some fields last in omega arith);
      within = omega arith;
    }

pub trailer-begun : (bytes : List ℕ) → length bytes < HEAD_LIMIT → HasNoSection (take HEAD_LIMIT bytes) → MayBecomeSection (take HEAD_LIMIT bytes) → IsTrailerBegun bytes
trailer-begun bytes short none can = record {
  none = subst HasNoSection (all-part bytes short) none;
  can = subst MayBecomeSection (all-part bytes short) can;
  short = short;
}

pub trailer-long : (bytes : List ℕ) → HEAD_LIMIT ≤ length bytes → HasNoSection (take HEAD_LIMIT bytes) → IsNoTrailer bytes
trailer-long bytes long none = inr (long, λ fields end rest x. none fields end _ (x.0.each, cut-front bytes (print_section fields end) rest x.0.fits x.1))

pub trailer-never : (bytes : List ℕ) → NeverHasSection (take HEAD_LIMIT bytes) → IsNoTrailer bytes
trailer-never bytes never = inl (λ more fields end rest x. never (drop HEAD_LIMIT bytes ++ more) fields end rest (x.0, sym (grow bytes more) ∙ x.1))

-- a field line has three bytes at least
field-bytes : (f : Field) → IsField f → 3 ≤ length (print_field f)
field-bytes f x =
    let name : 0 < length f.name = x.name.0 in
    let a = length-append (f.name ++ 58 ∷ f.raw) (print_end f.end) in
    let b = length-append f.name (58 ∷ f.raw) in
    let e : 0 < length (print_end f.end) = some f.end in
    omega arith
  where
    some : (e : LineEnd) → 0 < length (print_end e)
    some crlf = omega arith
    some lf = omega arith

fields-bytes : (fs : List Field) → All IsField fs → 3 * length fs ≤ length (flat_map print_field fs)
fields-bytes [] all = omega arith
fields-bytes (f ∷ fs) all =
    let one = field-bytes f (All-head IsField f fs all) in
    let more = fields-bytes fs (All-tail IsField f fs all) in
    omega (arith, length-append (print_field f) (flat_map print_field fs))

pub few-lines : (room : ℕ) (bytes : List ℕ) → length (take HEAD_LIMIT bytes) < 3 * room + 3 → SectionExceeds room (take HEAD_LIMIT bytes) → ⊥
few-lines room bytes less x =
    let front = x.0 in
    let fields = x.3 in
    let many : room < length fields = x.5 in
    let a : length (take HEAD_LIMIT bytes) ≡ length front + length x.1 = ap length x.2 ∙ length-append front x.1 in
    let b = length-append front (10 ∷ []) in
    let text : front ++ 10 ∷ [] ≡ flat_map print_field fields ++ 10 ∷ [] = x.4.1 ∙ append-nil (print_section fields lf) in
    let d : length (front ++ 10 ∷ []) ≡ length (flat_map print_field fields ++ 10 ∷ []) = ap length text in
    let e = length-append (flat_map print_field fields) (10 ∷ []) in
    let least = fields-bytes fields x.4.0 in
    omega arith
