-- The bytes that wait to be sent on a connection.
use Rattle.std.specs.Prelude.{◌≡◌, ◌++◌, ℕ, List, drop}

-- Nothing is lost, and what is new is behind it.
abbrev pub GrowsBehind : List ℕ → List ℕ → Type 0
GrowsBehind old new = (more : List ℕ) × (new ≡ old ++ more)

-- The first of these bytes went out, and the others wait.
abbrev pub IsRestOf : List ℕ → List ℕ → Type 0
IsRestOf bytes waiting = (sent : ℕ) × (waiting ≡ drop sent bytes)
