-- What is read again behind a stop amid keeping offers to one agent.
use Rattle.std.specs.Prelude.{◌≡◌, ◌⊎◌, ℕ, List, true, false, Contains}
use Rattle.std.specs.Str.{bytes_eq}
use Rattle.server_core.specs.declared.offers.Offers.{Offers}
use Rattle.server_kept.specs.Files.{IsUid, has_offer}
use Rattle.server_kept.specs.declared.opening.KeptOffers.{KeptOffers}

-- each that was found is what stood for its agent, or these offers to this agent
abbrev pub IsFormerOrNext : (List ℕ → Offers) → List ℕ → Offers → List KeptOffers → Type 0
IsFormerOrNext standing uid offers found =
    (kept : KeptOffers) → Contains found kept → (kept.offers ≡ standing kept.uid) ⊎ ((kept.uid ≡ uid) × (kept.offers ≡ offers))

-- what stands for another agent is found
abbrev pub NoneLost : (List ℕ → Offers) → List ℕ → List KeptOffers → Type 0
NoneLost standing uid found =
    (other : List ℕ) → IsUid other → bytes_eq uid other ≡ false → has_offer (standing other) ≡ true → Contains found (record { uid = other; offers = standing other })
