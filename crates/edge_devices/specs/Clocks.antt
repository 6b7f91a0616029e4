-- What contracts see of a clock and of a source of random bytes.
use Rattle.std.specs.Prelude.{◌≡◌, ℕ, ◌≤◌, ◌++◌, List, [], ◌∷◌, Bool, Option, Some, None, Result, IsTrue, OnOk, OnErr}
use Rattle.edge_devices.specs.Faults.{HasRisen}
use Rattle.edge_devices.specs.declared.clocks.ClockFault.{ClockFault}
use Rattle.edge_devices.specs.declared.clocks.EntropyFault.{EntropyFault}

-- Whether the clock tells its waits; the waits that ended; and how many waits answered a fault.
pub record ClockState : Type 0 where
  pub told : Bool
  pub waits : List ℕ
  pub faults : ℕ

-- The clock waited so long, or it failed. The count of faults rises where it failed, and nowhere else, so that no wait
-- that failed is passed over.
pub record Waits (old new : ClockState) (nanos : ℕ) (result : Result Unit ClockFault) : Type 0 where
  pub told : new.told ≡ old.told
  pub done : OnOk result (IsTrue new.told → new.waits ≡ old.waits ++ nanos ∷ [])
  pub failed : OnErr result (IsTrue new.told → new.waits ≡ old.waits)
  pub count : old.faults ≤ new.faults
  pub fault : OnErr result (HasRisen old.faults new.faults)
  pub no_fault : OnOk result (new.faults ≡ old.faults)

-- Whether the source tells what it gives; the sixteen bytes of each call to come; the calls, each with its bytes, or
-- with none where it answered a fault; and how many of them did.
pub record EntropyState : Type 0 where
  pub told : Bool
  pub left : List (List ℕ)
  pub calls : List (Option (List ℕ))
  pub faults : ℕ

-- The source gave these bytes, or it failed. From a call on that it could not put down it tells nothing.
pub record Fills (old new : EntropyState) (bytes : List ℕ) (result : Result Unit EntropyFault) : Type 0 where
  pub told : IsTrue new.told → IsTrue old.told
  pub given : OnOk result (IsTrue new.told → (old.left ≡ bytes ∷ new.left) × (new.calls ≡ old.calls ++ Some bytes ∷ []))
  pub failed : OnErr result (IsTrue new.told → (new.left ≡ old.left) × (new.calls ≡ old.calls ++ None ∷ []))
  pub count : old.faults ≤ new.faults
  pub fault : OnErr result (HasRisen old.faults new.faults)
