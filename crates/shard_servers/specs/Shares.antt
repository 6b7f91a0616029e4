-- The shares of the four ledgers.
use Rattle.std.specs.Prelude.{◌≡◌, ℕ}

-- each of four numbers is this one
pub record AreAll (n a b c d : ℕ) : Type 0 where
  pub first : a ≡ n
  pub second : b ≡ n
  pub third : c ≡ n
  pub fourth : d ≡ n
