-- What is seen of a wire, and what a call on it tells.
use Rattle.std.specs.Prelude.{◌≡◌, ℕ, ◌≤◌, List, Option}
use Rattle.edge_devices.specs.Faults.{HasRisen}
use Rattle.edge_devices.specs.Wires.{Tells}
use Rattle.edge_devices.specs.declared.wires.WireCall.{WireCall}
use Rattle.edge_devices.specs.declared.wires.WireCall.TheVariants.{LostOn}

-- its calls with their results, where it tells them, and how many of them answered a fault
pub record WireView : Type 0 where
  pub calls : Option (List WireCall)
  pub faults : ℕ

abbrev pub view_of : Option (List WireCall) → ℕ → WireView
view_of calls faults = record { calls = calls; faults = faults }

-- This call was made.
pub record IsDone (call : WireCall) (old new : WireView) : Type 0 where
  pub told : Tells old.calls new.calls call
  pub count : old.faults ≤ new.faults

-- A send on the connection was lost, in which the count of faults rose.
pub record IsLost (conn : ℕ) (old new : WireView) : Type 0 where
  pub told : Tells old.calls new.calls (LostOn conn)
  pub count : old.faults ≤ new.faults
  pub fault : HasRisen old.faults new.faults

-- No event was given, in a call in which the count of faults rose.
pub record IsFailed (old new : WireView) : Type 0 where
  pub untold : new.calls ≡ old.calls
  pub count : old.faults ≤ new.faults
  pub fault : HasRisen old.faults new.faults
