-- Bytes that come into a buffer, behind its first ones.
use Rattle.std.proofs.Common.{◌≡◌, ℕ, ◌+◌, ◌-◌, ◌≤◌, List, ◌++◌, length, take, drop, Option, ap, sym, ◌∙◌, arith}
use Rattle.std.specs.Prelude.{IfOk, Result, Ok, Err}
use Rattle.std.specs.List.{copy_within}
use Rattle.std.specs.Io.KnownBytes.{Consumes, ReadConsumes}
use Rattle.std.proofs.Math.Seq.{take-append-add}
use Rattle.std.proofs.lemmas.List.{take-append-le, drop-append-le, length-take-le, length-drop, drop-drop, drop-take, drop_at, take-take}
use Rattle.std.proofs.lemmas.List.Edits.{take-paste}
use borrow.Rule.Slice.PartMut.{put_mid, post_of}
use Rattle.command_streams.specs.Supplies.{TakesBehind}

pub TakesBehind-read : {E : Type 0} (at size : ℕ) (buffer part : List ℕ) (left left' : Option (List ℕ)) (r : Result ℕ E) → at ≤ length buffer → IfOk r (λ n. n ≤ length part) → ReadConsumes left left' r part
    → IfOk r (TakesBehind (take at buffer) (put_mid at size buffer part) left left')
TakesBehind-read at size buffer part left left' (Err fault) room within bytes = tt
TakesBehind-read at size buffer part left left' (Ok n) room within bytes = (
  take n part,
  length-take-le n part within,
  take-append-add (take at buffer) (part ++ post_of at size buffer) n ∙ ap (λ (t : List ℕ). take at buffer ++ t) (take-append-le n part (post_of at size buffer) within),
  bytes.0,
)

-- what came behind a buffer's first bytes came behind those of them that are held
pub TakesBehind-held : (start end n : ℕ) (before after whole held : List ℕ) (left left' : Option (List ℕ)) → start ≤ end → end ≤ length before → whole ≡ after → drop start (take end before) ≡ held
    → TakesBehind (take end before) after left left' n → (more : List ℕ) × (length more ≡ n) × (drop start (take (end + n) whole) ≡ held ++ more) × Consumes left left' more
TakesBehind-held start end n before after whole held left left' order within is holds takes =
    let front : length (take end before) ≡ end = length-take-le end before within in
    let more : List ℕ = takes.0 in (
      more,
      takes.1,
      ap (λ (t : List ℕ). drop start (take (end + n) t)) is ∙ ap (λ (k : ℕ). drop start (take (k + n) after)) (sym front) ∙ ap (λ (t : List ℕ). drop start t) takes.2
          ∙ drop-append-le start (take end before) more (omega (arith, front, order)) ∙ ap (λ (t : List ℕ). t ++ more) holds,
      takes.3,
    )

-- ---- bytes in front of others

-- bytes that are copied on in a buffer stand where they were copied to
pub copied_on : (d : List ℕ) (start end to : ℕ) → start ≤ end → end ≤ length d → to + (end - start) ≤ length d → drop to (take (to + (end - start)) (copy_within d start end to)) ≡ drop start (take end d)
copied_on d start end to order within room =
    let n : ℕ = end - start in
    let until : end ≡ start + n = omega (arith, order) in
    let whole : n ≤ length (drop start d) = omega (arith, length-drop start d, within) in
    let pasted : take (to + n) (copy_within d start end to) ≡ take to d ++ take n (drop start d) = take-paste d to (drop start d) n (omega (arith, room)) whole in
    let front : length (take to d) ≡ to = length-take-le to d (omega (arith, room)) in
    ap (λ (t : List ℕ). drop to t) pasted
    ∙ drop_at (take to d) (take n (drop start d)) to front
    ∙ sym (ap (λ (k : ℕ). drop start (take k d)) until ∙ drop-take start n d)

-- what is written into a buffer before a part of it stands in front of that part
pub put_before : (s k e : ℕ) (b ys : List ℕ) → s + k ≤ e → e ≤ length b → length ys ≡ k → drop s (take e (put_mid s k b ys)) ≡ ys ++ drop (s + length ys) (take e b)
put_before s k e b ys within end len =
    let m : ℕ = e - (s + k) in
    let post : List ℕ = post_of s k b in
    let all : List ℕ = put_mid s k b ys in
    let until : e ≡ s + (k + m) = omega (arith, within) in
    let split : e ≡ (s + k) + m = omega (arith, within) in
    let size : k + m ≡ length ys + m = omega (arith, len) in
    let front : length (take s b) ≡ s = length-take-le s b (omega (arith, within, end)) in
    let written : drop s (take e all) ≡ ys ++ take m post =
    ap (λ (n : ℕ). drop s (take n all)) until
    ∙ drop-take s (k + m) all
    ∙ ap (λ (t : List ℕ). take (k + m) t) (drop_at (take s b) (ys ++ post) s front)
    ∙ ap (λ (n : ℕ). take n (ys ++ post)) size
    ∙ take-append-add ys post m in
    let rest : drop (s + k) (take e b) ≡ take m post =
    ap (λ (n : ℕ). drop (s + k) (take n b)) split
    ∙ drop-take (s + k) m b
    ∙ ap (λ (t : List ℕ). take m t) (sym (drop-drop k s b)) in
    written ∙ ap (λ (t : List ℕ). ys ++ t) (sym rest) ∙ ap (λ (n : ℕ). ys ++ drop (s + n) (take e b)) (sym len)

-- a buffer that was made longer has the same bytes at places that it had
pub longer_buffer : (d d' : List ℕ) (start end : ℕ) → take (length d) d' ≡ d → end ≤ length d → drop start (take end d') ≡ drop start (take end d)
longer_buffer d d' start end begins within =
    ap (λ (t : List ℕ). drop start t) (sym (take-take end (length d) d' within) ∙ ap (λ (t : List ℕ). take end t) begins)
