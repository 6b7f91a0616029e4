-- What was found to stand for an agent.
use Rattle.std.proofs.Common.{◌≡◌, ◌⊎◌, ℕ, zero, suc, List, [], ◌∷◌, Bool, true, false, cond, Some, None, refl, sym, ◌∙◌, ap, subst, arith, inl, inr}
use Rattle.std.specs.Prelude.{Contains, IsSome}
use Rattle.std.specs.Str.{bytes_eq}
use Rattle.std.specs.Cmp.Lexicographic.{bytes_decides}
use Rattle.server_core.specs.declared.offers.Offers.{Offers}
use Rattle.server_core.specs.Offers.{no_offers}
use Rattle.edge_shelf.specs.Shelves.{Body}
use Rattle.server_kept.specs.declared.opening.KeptOffers.{KeptOffers}
use Rattle.server_kept.specs.Files.{IsUid, StandsFor, file_name}
use Rattle.server_kept.specs.Opening.{FindsAll, Opened, found_at}

abbrev pub kept_of : List ℕ → Offers → KeptOffers
kept_of uid offers = record { uid = uid; offers = offers }

later : (kept : KeptOffers) (found : List KeptOffers) (x : KeptOffers) → Contains found x → Contains (kept ∷ found) x
later kept found x c = (suc c.0, omega (arith, c.1), c.2)

first : (kept : KeptOffers) (found : List KeptOffers) (uid : List ℕ) → kept.uid ≡ uid → Contains (kept ∷ found) (kept_of uid kept.offers)
first kept found uid e = (0, omega arith, ap (λ u. kept_of u kept.offers) e)

-- it is one of those that were found, or none is
abbrev pub IsHeld : List KeptOffers → List ℕ → Offers → Type 0
IsHeld found uid offers = Contains found (kept_of uid offers) ⊎ ((offers ≡ no_offers) × ((o : Offers) → Contains found (kept_of uid o) → ⊥))

none_later : (kept : KeptOffers) (found : List KeptOffers) (uid : List ℕ) → bytes_eq kept.uid uid ≡ false → ((o : Offers) → Contains found (kept_of uid o) → ⊥)
    → (o : Offers) → Contains (kept ∷ found) (kept_of uid o) → ⊥
none_later kept found uid differ none o (zero, h, e) = cc (sym ((bytes_decides kept.uid uid).1 (ap (λ (k : KeptOffers). k.uid) e)) ∙ differ)
none_later kept found uid differ none o (suc k, h, e) = none o (k, omega (arith, h), e)

step : (kept : KeptOffers) (found : List KeptOffers) (uid : List ℕ) (same : Bool) → bytes_eq kept.uid uid ≡ same → IsHeld found uid (found_at found uid)
    → IsHeld (kept ∷ found) uid (cond same kept.offers (found_at found uid))
step kept found uid true e held = inl (first kept found uid ((bytes_decides kept.uid uid).0 e))
step kept found uid false e (inl c) = inl (later kept found _ c)
step kept found uid false e (inr (is, none)) = inr (is, none_later kept found uid e none)

held : (found : List KeptOffers) (uid : List ℕ) → IsHeld found uid (found_at found uid)
held [] uid = inr (refl, λ o c. absurd (omega (arith, c.1)))
held (kept ∷ found) uid = step kept found uid (bytes_eq kept.uid uid) refl (held found uid)

no_file : (files : List ℕ → Body) (found : List KeptOffers) (uid : List ℕ) (body : Body) → Opened files found → IsUid uid → files (file_name uid) ≡ body
    → ((o : Offers) → Contains found (kept_of uid o) → ⊥) → StandsFor uid no_offers body
no_file files found uid None opened iu is none = refl
no_file files found uid (Some body) opened iu is none =
    let there = opened.complete uid iu (subst (λ (b : Body). IsSome b) (sym is) refl) in absurd (none there.0 there.1)

by_held : (files : List ℕ → Body) (found : List KeptOffers) (uid : List ℕ) (offers : Offers) → Opened files found → IsUid uid → IsHeld found uid offers → StandsFor uid offers (files (file_name uid))
by_held files found uid offers opened iu (inl c) = let is = opened.sound (kept_of uid offers) c in subst (λ (b : Body). StandsFor uid offers b) (sym is.there) is.holds
by_held files found uid offers opened iu (inr (is, none)) =
    subst (λ (o : Offers). StandsFor uid o (files (file_name uid))) (sym is) (no_file files found uid (files (file_name uid)) opened iu refl none)

pub finds_all : FindsAll
finds_all files found opened uid iu = by_held files found uid (found_at found uid) opened iu (held found uid)
