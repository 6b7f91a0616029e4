-- What a crash leaves after device calls, of bytes of which none was pending.
use Rattle.std.specs.Prelude.{◌≡◌, ◌⊎◌, ◌<◌, ℕ, ◌-◌, Bool, List, [], ◌∷◌, length, take, slice_index, nat_le, if◌then◌else◌}
use Rattle.edge_devices.specs.Disks.{DeviceCall, Writes, Cuts, Syncs, Crash}
use Rattle.edge_devices.specs.DiskCalls.{cut_at}
use Rattle.edge_devices.specs.DiskReplays.{is_inside}
use Rattle.edge_devices.specs.declared.disk_calls.Mode.{Mode}
use Rattle.edge_devices.specs.declared.disk_calls.Mode.TheVariants.{Old, New, Torn}

-- the bytes with a write over them
abbrev pub over : (ℕ → ℕ) → ℕ → List ℕ → ℕ → ℕ
over image at bytes = λ place. if is_inside at (length bytes) place then slice_index bytes (place - at) else image place

-- the bytes with a write that was not synced, as a crash leaves it: their former values, those written, or the byte aa
abbrev pub over_as : Mode → (ℕ → ℕ) → ℕ → List ℕ → ℕ → ℕ
over_as Old image at bytes = image
over_as New image at bytes = over image at bytes
over_as Torn image at bytes = λ place. if is_inside at (length bytes) place then 170 else image place

-- what a read gives, and what a crash in each mode leaves
pub record Bytes : Type 0 where
  pub seen : ℕ → ℕ
  pub left : Mode → ℕ → ℕ

-- nothing is pending
abbrev pub settled : (ℕ → ℕ) → Bytes
settled image = record { seen = image; left = λ mode. image }

abbrev pub bytes_call : Bytes → DeviceCall → Bytes
bytes_call bytes (Writes at written) = record { seen = over bytes.seen at written; left = λ mode. over_as mode (bytes.left mode) at written }
bytes_call bytes (Cuts at written) = record { seen = bytes.seen; left = λ mode. over_as mode (bytes.left mode) at written }
bytes_call bytes Syncs = settled bytes.seen
bytes_call bytes (Crash mode) = settled (bytes.left mode)

-- after these calls
abbrev pub bytes_after : Bytes → List DeviceCall → Bytes
bytes_after bytes [] = bytes
bytes_after bytes (call ∷ calls) = bytes_after (bytes_call bytes call) calls

-- the bytes of a disk that was never written and then had these calls
abbrev pub bytes_of : List DeviceCall → Bytes
bytes_of calls = bytes_after (settled (λ _. 0)) calls

-- what a crash leaves of a plan that stops at its call of this number, counted from 1
abbrev pub stopped_image : Mode → (ℕ → ℕ) → List DeviceCall → ℕ → ℕ → ℕ
stopped_image mode image plan j = (bytes_after (settled image) (cut_at (j - 1) plan)).left mode

-- a stop at the call of this number, counted from 1, falls in the plan; one that does not counts on in the calls after it
abbrev pub falls_in : ℕ → List DeviceCall → Bool
falls_in j plan = nat_le j (length plan)

abbrev pub counts_on : ℕ → List DeviceCall → ℕ
counts_on j plan = j - length plan

-- A plan ended at a call that failed, and a crash left the bytes that the calls up to it leave, that one not completed or missing.
pub record LeftAmid (mode : Mode) (plan : List DeviceCall) (old new : ℕ → ℕ) : Type 0 where
  pub number : ℕ
  pub within : number < length plan
  pub image : (new ≡ (bytes_after (settled old) (cut_at number plan)).left mode) ⊎ (new ≡ (bytes_after (settled old) (take number plan)).left mode)
