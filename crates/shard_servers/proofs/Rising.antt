-- Places that rise, with the last of them.
use Rattle.std.specs.Prelude.{◌≡◌, ℕ, List, [], ◌∷◌, ◌++◌, Option, None, Some}
use Rattle.shard_servers.specs.Agreement.{IsRising}

-- they rise, and this is the last of them, or there is none
abbrev pub RisesTo : Option ℕ → List ℕ → Type 0
RisesTo None ps = ps ≡ []
RisesTo (Some p) ps = (before : List ℕ) × (ps ≡ before ++ p ∷ []) × IsRising (before ++ p ∷ [])
