-- The frames of journals, one by one.
use Rattle.std.proofs.Common.{◌≡◌, ℕ, ◌+◌, ◌<◌, List, [], ◌∷◌, ◌++◌, length, get_or, take, refl, sym, ◌∙◌, ap, arith}
use Rattle.std.specs.Int.{w64, to_be_bytes}
use Rattle.std.specs.List.{enumerate_from, flat_map}
use Rattle.std.proofs.lemmas.Grind.{flat_map-append}
use Rattle.std.proofs.lemmas.List.{append_assoc, length-take-le, take_more}
use Rattle.command_streams.specs.Framing.{frame_of}
use Rattle.shard_journals.specs.declared.rows.Row.{Row}
use Rattle.command_fleet.specs.Output.{fleet_frames, journal_frames, place_bytes}

pub place_frame : (s i : ℕ) → frame_of (place_bytes s i) ≡ 0 ∷ 0 ∷ 0 ∷ 9 ∷ s ∷ to_be_bytes w64 i
unfolding frame_of
place_frame s i = refl

pub place_put : (old : List ℕ) (s i : ℕ) → (old ++ 0 ∷ 0 ∷ 0 ∷ 9 ∷ s ∷ []) ++ to_be_bytes w64 i ≡ old ++ frame_of (place_bytes s i)
place_put old s i = append_assoc old (0 ∷ 0 ∷ 0 ∷ 9 ∷ s ∷ []) (to_be_bytes w64 i) ∙ ap (λ bs. old ++ bs) (sym (place_frame s i))

numbered_push : (from : ℕ) (xs : List (List Row)) (y : List Row) → enumerate_from from (xs ++ y ∷ []) ≡ enumerate_from from xs ++ (from + length xs, y) ∷ []
numbered_push from [] y = (let z : from ≡ from + 0 = omega arith in ap (λ n. (n, y) ∷ []) z)
numbered_push from (x ∷ xs) y =
    (let z : (from + 1) + length xs ≡ from + length (x ∷ xs) = omega arith in
    ap (λ ps. (from, x) ∷ ps) (numbered_push (from + 1) xs y ∙ ap (λ n. enumerate_from (from + 1) xs ++ (n, y) ∷ []) z))

append_nothing : {X : Type 0} (xs : List X) → xs ++ [] ≡ xs
append_nothing [] = refl
append_nothing (x ∷ xs) = ap (λ ys. x ∷ ys) (append_nothing xs)

-- the frames of one journal more
pub one_more : (journals : List (List Row)) (n : ℕ) (rows : List Row) → n < length journals → rows ≡ get_or journals n rows → (old now : List ℕ)
    → now ≡ old ++ fleet_frames (take n journals) → now ++ journal_frames n rows ≡ old ++ fleet_frames (take (n + 1) journals)
one_more journals n rows within is old now so_far =
    let len : 0 + length (take n journals) ≡ n = (let l = length-take-le n journals (omega (arith, within)) in omega (arith, l)) in
    let more : take (n + 1) journals ≡ take n journals ++ rows ∷ [] = take_more journals n rows within ∙ ap (λ r. take n journals ++ r ∷ []) (sym is) in
    let frames : fleet_frames (take (n + 1) journals) ≡ fleet_frames (take n journals) ++ journal_frames n rows =
    ap fleet_frames more
    ∙ ap (flat_map (λ (p : ℕ × List Row). journal_frames p.0 p.1)) (numbered_push 0 (take n journals) rows)
    ∙ flat_map-append (λ (p : ℕ × List Row). journal_frames p.0 p.1) (enumerate_from 0 (take n journals)) ((0 + length (take n journals), rows) ∷ [])
    ∙ ap (λ bs. fleet_frames (take n journals) ++ bs) (append_nothing (journal_frames (0 + length (take n journals)) rows) ∙ ap (λ k. journal_frames k rows) len) in
    ap (λ bs. bs ++ journal_frames n rows) so_far
    ∙ append_assoc old (fleet_frames (take n journals)) (journal_frames n rows)
    ∙ ap (λ bs. old ++ bs) (sym frames)
