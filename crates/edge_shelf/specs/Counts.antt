-- Which calls of a shelf in memory fail, and how many did.
use Rattle.std.specs.Prelude.{◌≡◌, ◌⊎◌, ◌==◌, ◌||◌, ◌-◌, ℕ, List, Bool, false, if◌then◌else◌, Contains}
use Rattle.edge_devices.specs.Schedules.{one_more}

-- The numbers of the calls that are to fail, and that of the next one, counted from 0; how far the change is that is to be stopped, 0 for none;
-- whether one was stopped since that was asked for; and how many calls answered a fault. A change is a write or a removal.
pub record CountState : Type 0 where
  pub failing : List ℕ
  pub next : ℕ
  pub stop : ℕ
  pub stopped : Bool
  pub faults : ℕ

-- before the first call
abbrev pub opening : List ℕ → CountState
opening failing = record { failing = failing; next = 0; stop = 0; stopped = false; faults = 0 }

-- the next call is one that is to fail
abbrev pub IsListed : CountState → Type 0
IsListed counts = Contains counts.failing counts.next

-- a change that comes next fails: it is listed, or is the one that is to be stopped
abbrev pub IsToFail : CountState → Type 0
IsToFail counts = IsListed counts ⊎ (counts.stop ≡ 1)

-- the faults have risen by one where the call failed, and nowhere else
abbrev pub after_answer : CountState → Bool → CountState
after_answer counts failed = record counts { faults = if failed then one_more counts.faults else counts.faults }

-- after a call that only looks
abbrev pub after_look : CountState → Bool → CountState
after_look counts failed = after_answer (record counts { next = one_more counts.next }) failed

-- after a change
abbrev pub after_change : CountState → Bool → CountState
after_change counts failed = after_answer (record {
  failing = counts.failing;
  next = one_more counts.next;
  stop = counts.stop - 1;
  stopped = counts.stopped || counts.stop == 1;
  faults = counts.faults;
}) failed
