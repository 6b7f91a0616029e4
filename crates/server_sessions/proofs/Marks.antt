-- The reports of an event are marked one after the other.
use Rattle.std.proofs.Common.{◌≡◌, ◌<◌, ℕ, List, ◌∷◌, length, refl, sym, ap, get_or, drop, suc, ◌+◌, add-one, drop-cons}
use Rattle.std.specs.Prelude.{fold}
use Rattle.server_lines.specs.Sights.{Seen}
use Rattle.server_sessions.specs.declared.answers.stepped.Handled.{Handled}
use Rattle.server_sessions.specs.Session.{marked}

-- what is seen once those from this one on are marked too
abbrev pub marked_from : Seen → ℕ → List Handled → Seen
marked_from seen i handled = fold marked seen (drop i handled)

pub marked_more : (seen next : Seen) (i : ℕ) (h : Handled) (handled : List Handled) → i < length handled → h ≡ get_or handled i h → next ≡ marked seen h
    → marked_from next (i + 1) handled ≡ marked_from seen i handled
marked_more seen next i h handled within is made =
    let cut : drop i handled ≡ h ∷ drop (i + 1) handled = rw (add-one, drop-cons handled i h within) (ap (λ (x : Handled). x ∷ drop (suc i) handled) (sym is)) in
    rw (made, cut) refl
