-- Why the rollout that is asked for doesn't begin.
use Rattle.std.proofs.Common.{◌≡◌, ◌⊎◌, inl, inr}
use Rattle.server_waves.specs.declared.register.BeginFail.TheVariants.{NoMemory, TooLarge}

pub is_too_large : {X : Type 0} → (TooLarge ≡ NoMemory) ⊎ ((TooLarge ≡ TooLarge) × X) → X
is_too_large (inl wanting) = absurd (cc wanting)
is_too_large (inr p) = p.1
