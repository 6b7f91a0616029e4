-- A disk as contracts see it: what a read gives, what a crash may leave, and what it might have left before.
use Rattle.std.specs.Prelude.{◌≡◌, ◌⊎◌, ℕ, ◌+◌, ◌-◌, ◌<◌, ◌≤◌, Bool, true, false, List, [], ◌∷◌, ◌++◌, length, slice_index, Result, OnErr, MatchResult, IsErr}
use Rattle.edge_devices.specs.Faults.{HasRisen}
use Rattle.edge_devices.specs.declared.disks.DiskFault.{DiskFault}
use Rattle.edge_devices.specs.declared.disk_calls.Mode.{Mode}

-- what a read gives at each place, and which places a write has covered since the last successful sync
pub record Medium : Type 0 where
  pub seen : ℕ → ℕ
  pub pending : ℕ → Bool

-- a call that reached the disk: a write, a write that was not completed, or a sync; or a crash
pub data DeviceCall : Type 0 where
  Writes : ℕ → List ℕ → DeviceCall
  Cuts : ℕ → List ℕ → DeviceCall
  Syncs : DeviceCall
  Crash : Mode → DeviceCall

-- whether the disk tells its contents, how often it has failed, the medium at each moment up to this one, and the calls that reached it, in their order
pub record DiskState : Type 0 where
  pub told : Bool
  pub faults : ℕ
  pub moment : ℕ
  pub history : ℕ → Medium
  pub calls : List DeviceCall

-- the medium at this moment
abbrev pub medium : DiskState → Medium
medium disk = disk.history disk.moment

-- what a read gives at each place
abbrev pub disk_bytes : DiskState → ℕ → ℕ
disk_bytes disk = (medium disk).seen

-- a crash may leave this: what a read gives, but anything at the pending places
abbrev pub MayLeave : Medium → (ℕ → ℕ) → Type 0
MayLeave medium image = (place : ℕ) → medium.pending place ≡ false → image place ≡ medium.seen place

-- nothing is pending: a crash leaves what a read gives
abbrev pub IsSettled : Medium → Type 0
IsSettled medium = (place : ℕ) → medium.pending place ≡ false

-- these bytes stand at this place
abbrev pub HasBytes : (ℕ → ℕ) → ℕ → List ℕ → Type 0
HasBytes image at bytes = (k : ℕ) → k < length bytes → image (at + k) ≡ slice_index bytes k

-- a crash may leave anything at the n places from at on
abbrev pub IsCovered : ℕ → ℕ → Medium → Type 0
IsCovered at n medium = (k : ℕ) → k < n → medium.pending (at + k) ≡ true

-- the place is not one of the n from at on
abbrev pub IsOutside : ℕ → ℕ → ℕ → Type 0
IsOutside at n place = (place < at) ⊎ (at + n ≤ place)

-- the images agree but for the n places from at on
abbrev pub IsTorn : ℕ → ℕ → (ℕ → ℕ) → (ℕ → ℕ) → Type 0
IsTorn at n old new = (place : ℕ) → IsOutside at n place → new place ≡ old place

-- the images agree but for two ranges
abbrev pub IsTornBoth : ℕ → ℕ → ℕ → ℕ → (ℕ → ℕ) → (ℕ → ℕ) → Type 0
IsTornBoth at n other_at m old new = (place : ℕ) → IsOutside at n place → IsOutside other_at m place → new place ≡ old place

-- the same but for the n places from at on
pub record SameOutside (at n : ℕ) (old new : Medium) : Type 0 where
  pub seen : IsTorn at n old.seen new.seen
  pub pending : (place : ℕ) → IsOutside at n place → new.pending place ≡ old.pending place

-- no place becomes pending
abbrev pub StaysSettled : Medium → Medium → Type 0
StaysSettled old new = (place : ℕ) → old.pending place ≡ false → new.pending place ≡ false

-- Time goes on: the moments that join the past are of the medium as it is now.
pub record Elapses (old new : DiskState) : Type 0 where
  pub told : new.told ≡ old.told
  pub later : old.moment ≤ new.moment
  pub past : (t : ℕ) → t ≤ old.moment → new.history t ≡ old.history t
  pub since : (t : ℕ) → old.moment < t → t ≤ new.moment → new.history t ≡ medium new

-- the call fails only where the count of faults rose
pub record HasCause {T : Type 0} (old new : DiskState) (result : Result T DiskFault) : Type 0 where
  pub later : old.faults ≤ new.faults
  pub fault : OnErr result (HasRisen old.faults new.faults)

-- A crash at any moment since old leaves an image that has P.
pub record LeftSince (old new : DiskState) (P : (ℕ → ℕ) → Type 0) : Type 0 where
  pub told : new.told ≡ old.told
  pub later : old.moment ≤ new.moment
  pub past : (t : ℕ) → t ≤ old.moment → new.history t ≡ old.history t
  pub each : (t : ℕ) (image : ℕ → ℕ) → old.moment ≤ t → t ≤ new.moment → MayLeave (new.history t) image → P image

-- only the byte at this place differs, and it says 1 only where it did before
pub record IsClosing (at : ℕ) (old new : ℕ → ℕ) : Type 0 where
  pub elsewhere : IsTorn at 1 old new
  pub gate : new at ≡ 1 → old at ≡ 1

-- nothing changed but that time went on
pub record Reads (old new : DiskState) : Type 0 where
  pub time : Elapses old new
  pub same : medium new ≡ medium old
  pub calls : new.calls ≡ old.calls

-- how many device calls there are up to the one that is stopped, 0 where none is, and how many faults no stop made
pub record Countdown : Type 0 where
  pub left : ℕ
  pub others : ℕ

-- One device call counts: it fails where it is the one that is stopped, and elsewhere for a cause that is counted.
pub record Counts {T E : Type 0} (old new : Countdown) (result : Result T E) : Type 0 where
  pub left : new.left ≡ old.left - 1
  pub others : old.others ≤ new.others
  pub hit : old.left ≡ 1 → IsErr result
  pub cause : IsErr result → (old.left ≡ 1) ⊎ HasRisen old.others new.others

-- A write joined the calls. One that failed joined them as not completed; or it did not, for a cause that no stop made.
abbrev pub JoinsWrite : {T E : Type 0} → ℕ → List ℕ → DiskState → DiskState → Countdown → Countdown → Result T E → Type 0
JoinsWrite at bytes old new a b result = MatchResult result (λ _. new.calls ≡ old.calls ++ Writes at bytes ∷ [])
    (λ _. (new.calls ≡ old.calls ++ Cuts at bytes ∷ []) ⊎ ((new.calls ≡ old.calls) × HasRisen a.others b.others))

-- a sync joined the calls, or it failed and did not
abbrev pub JoinsSync : {T E : Type 0} → DiskState → DiskState → Result T E → Type 0
JoinsSync old new result = MatchResult result (λ _. new.calls ≡ old.calls ++ Syncs ∷ []) (λ _. new.calls ≡ old.calls)
