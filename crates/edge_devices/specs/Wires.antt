-- What contracts see of a wire.
use Rattle.std.specs.Prelude.{◌≡◌, ℕ, List, [], ◌∷◌, ◌++◌, fold, Bool, true, false, ◌==◌, if◌then◌else◌, Option, None, Some, Result, Err, IsTrue, ⊤}
use Rattle.edge_devices.specs.declared.wires.Given.{Given}
use Rattle.edge_devices.specs.declared.wires.WireEvent.TheVariants as event
use Rattle.edge_devices.specs.declared.wires.WireCall.{WireCall}
use Rattle.edge_devices.specs.declared.wires.WireCall.TheVariants.{Closed, Gave, Listened, LostOn, Sent}
use Rattle.edge_devices.specs.declared.wires.WireFail.{WireFail}
use Rattle.edge_devices.specs.declared.wires.WireFail.TheVariants.{Fault}

-- The list that is told grows by these. An object that tells no list goes on to tell none.
abbrev pub Grows : {T : Type 0} → Option (List T) → Option (List T) → List T → Type 0
Grows None new more = new ≡ None
Grows (Some calls) None more = ⊥
Grows (Some calls) (Some told) more = told ≡ calls ++ more

-- One more call is told.
abbrev pub Tells : {T : Type 0} → Option (List T) → Option (List T) → T → Type 0
Tells old new call = Grows old new (call ∷ [])

-- whether a connection is open behind a call, where it was so before
abbrev pub open_after : ℕ → Bool → WireCall → Bool
open_after conn before (Listened kind address) = before
open_after conn before (Gave at (event.Opened c kind)) = if c == conn then true else before
open_after conn before (Gave at (event.Piece c bytes)) = before
open_after conn before (Gave at (event.Closed c)) = if c == conn then false else before
open_after conn before (Sent c bytes) = before
open_after conn before (LostOn c) = if c == conn then false else before
open_after conn before (Closed c) = if c == conn then false else before

-- A connection is open from its Opened to its Closed, to a close, or to a send on it that was lost.
abbrev pub is_open : List WireCall → ℕ → Bool
is_open calls conn = fold (open_after conn) false calls

-- The connection is open, where the wire tells its calls.
abbrev pub IsOpen : Option (List WireCall) → ℕ → Type 0
IsOpen None conn = ⊤
IsOpen (Some calls) conn = IsTrue (is_open calls conn)

-- The end of a connection is told where it was open, and nothing is told where it wasn't.
abbrev pub TellsEnd : Option (List WireCall) → Option (List WireCall) → ℕ → WireCall → Type 0
TellsEnd None new conn call = new ≡ None
TellsEnd (Some calls) new conn call = Grows (Some calls) new (if is_open calls conn then call ∷ [] else [])

-- the answer is a fault
abbrev pub is_wire_fault : Result Given WireFail → Bool
is_wire_fault (Err Fault) = true
is_wire_fault _ = false
