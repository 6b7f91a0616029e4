-- What a log of calls on a wire keeps beside them.
use Rattle.std.specs.Prelude.{◌≡◌, ℕ, List, Bool, not, ◌==◌, filter, if◌then◌else◌, false}
use Rattle.std.specs.List.{list_any}
use Rattle.edge_devices.specs.declared.wires.WireCall.{WireCall}
use Rattle.edge_devices.specs.Wires.{is_open, open_after}

abbrev pub is_in : ℕ → List ℕ → Bool
is_in conn open_ones = list_any (λ c. c == conn) open_ones

-- These connections are open behind the calls.
abbrev pub AreTheOpen : List WireCall → List ℕ → Type 0
AreTheOpen calls open_ones = (conn : ℕ) → is_in conn open_ones ≡ is_open calls conn

-- the others
abbrev pub others : ℕ → List ℕ → List ℕ
others conn open_ones = filter (λ c. not (c == conn)) open_ones

-- Behind such a call the same connections are open.
abbrev pub LeavesOpen : WireCall → Type 0
LeavesOpen call = (conn : ℕ) (before : Bool) → open_after conn before call ≡ before

-- Behind such a call this connection isn't open, and others are as before.
abbrev pub EndsOne : WireCall → ℕ → Type 0
EndsOne call ended = (conn : ℕ) (before : Bool) → open_after conn before call ≡ (if ended == conn then false else before)
