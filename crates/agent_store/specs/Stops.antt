-- What a stop at a device call of a save leaves.
use Rattle.std.specs.Prelude.{◌≡◌, ℕ, ◌+◌, ◌<◌, ◌≤◌, ◌^◌, Bool, false, List, length, nat_le, if◌then◌else◌}
use Rattle.edge_devices.specs.Disks.{DeviceCall}
use Rattle.edge_devices.specs.declared.disk_calls.Mode.{Mode}
use Rattle.edge_devices.specs.declared.disk_calls.Mode.TheVariants.{Old, New, Torn}
use Rattle.agent_store.specs.Slots.{Reading, Holds, reading}
use Rattle.agent_store.specs.Codecs.{Codec}
use Rattle.agent_store.specs.Store.{StoreState, IsSound, entry_fits, CanFollow}
use Rattle.agent_store.specs.Plans.{planned}

-- A crash leaves the next part where the written bytes stay and the stop is at the write of the last gate, or at the sync after it.
abbrev pub leaves_next : Mode → List DeviceCall → ℕ → Bool
leaves_next Old plan j = false
leaves_next New plan j = nat_le (length plan) (j + 1)
leaves_next Torn plan j = false

-- what a store's disk stands for after a stop at the call of this number of a save, counted from 1, and a crash
abbrev pub stopped_reading : Codec → Mode → StoreState → (ℕ → ℕ) → List ℕ → ℕ → Reading
stopped_reading codec mode store image next j = if leaves_next mode (planned codec store next) j then Holds next else reading codec store.layout image

-- the save stops at this call
pub record IsStop (j : ℕ) (plan : List DeviceCall) : Type 0 where
  pub from : 1 ≤ j
  pub to : j ≤ length plan

-- The store is whole, the part is right and fits, and where it takes a checkpoint a generation is left.
pub record CanSave (codec : Codec) (store : StoreState) (next : List ℕ) : Type 0 where
  pub sound : IsSound store
  pub intact : store.broken ≡ false
  pub small_room : store.layout.room < 2 ^ 32
  pub small_log : store.layout.log < 2 ^ 32
  pub follows : CanFollow codec store next
  pub short : length next ≤ store.layout.room
  pub unspent : entry_fits codec store next ≡ false → store.generation + 1 < 2 ^ 64
