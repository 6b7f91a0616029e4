-- Plans of device calls, and how far a disk went in one.
use Rattle.std.specs.Prelude.{◌≡◌, ◌⊎◌, ℕ, zero, suc, ◌<◌, List, [], ◌∷◌, ◌++◌, length, take, Result, MatchResult, ◌≤◌, ◌-◌, ◌+◌}
use Rattle.edge_devices.specs.Faults.{HasRisen}
use Rattle.edge_devices.specs.Disks.{DiskState, DeviceCall, Writes, Cuts, Syncs, Crash, Countdown}

-- what is left of a call that was not completed
abbrev pub unfinished : DeviceCall → List DeviceCall
unfinished (Writes at bytes) = Cuts at bytes ∷ []
unfinished (Cuts at bytes) = Cuts at bytes ∷ []
unfinished Syncs = []
unfinished (Crash mode) = []

-- a plan up to the call of this number, counted from 0, which was not completed
abbrev pub cut_at : ℕ → List DeviceCall → List DeviceCall
cut_at n [] = []
cut_at zero (call ∷ plan) = unfinished call
cut_at (suc n) (call ∷ plan) = call ∷ cut_at n plan

-- the whole plan was made, before the call that is stopped
pub record MadeAll (plan : List DeviceCall) (old new : DiskState) (a b : Countdown) : Type 0 where
  pub calls : new.calls ≡ old.calls ++ plan
  pub left : b.left ≡ a.left - length plan
  pub before : (a.left ≡ 0) ⊎ (length plan < a.left)
  pub others : a.others ≤ b.others

-- The calls went on by a plan up to one that failed, which joined them as not completed, or not at all for a cause that no stop made. It is the
-- one that is stopped, or failed for such a cause.
pub record EndsAmid (plan : List DeviceCall) (old new : DiskState) (a b : Countdown) : Type 0 where
  pub number : ℕ
  pub within : number < length plan
  pub made : (new.calls ≡ old.calls ++ cut_at number plan) ⊎ ((new.calls ≡ old.calls ++ take number plan) × HasRisen a.others b.others)
  pub cause : (number + 1 ≡ a.left) ⊎ HasRisen a.others b.others

-- so, or the fault came after the whole plan, in a read
abbrev pub EndsAmidOrAfter : List DeviceCall → DiskState → DiskState → Countdown → Countdown → Type 0
EndsAmidOrAfter plan old new a b = EndsAmid plan old new a b ⊎ MadeAll plan old new a b

-- the whole plan was made, or after a fault its front
abbrev pub Makes : {T E : Type 0} → List DeviceCall → DiskState → DiskState → Countdown → Countdown → Result T E → Type 0
Makes plan old new a b result = MatchResult result (λ _. MadeAll plan old new a b) (λ _. EndsAmid plan old new a b)
