-- The laws of the store that are called here.
use Rattle.std.proofs.Common.{◌≡◌, ℕ, ◌+◌, ◌≤◌, List, ◌++◌, IsTrue}
use Rattle.edge_devices.specs.Faults.{HasRisen}
use Rattle.edge_devices.specs.Disks.{DiskState, DeviceCall, disk_bytes, medium, IsSettled}
use Rattle.edge_devices.specs.DiskCalls.{EndsAmid}
use Rattle.edge_devices.specs.DiskStops.{bytes_of, stopped_image}
use Rattle.edge_devices.specs.MemoryDisks.{memory_disk, disk_countdown}
use Rattle.edge_devices.specs.declared.disk_calls.Mode.{Mode}
use Rattle.edge_devices.specs.declared.memory_disk.MemDisk.{MemDisk}
use Rattle.agent_store.specs.Loads.{store_of, image_after}
use Rattle.agent_store.specs.Plans.{planned}
use Rattle.agent_store.specs.Slots.{reading}
use Rattle.agent_store.specs.Store.{StoreState, Fits}
use Rattle.agent_store.specs.Stops.{IsStop, CanSave, stopped_reading}
use Rattle.agent_rules.specs.Codec.{codec}

pub record StoreLaws : Type 0 where
  pub store : (disk : DiskState) (store : StoreState) → Fits codec disk store → IsTrue disk.told → store_of codec store.layout (disk_bytes disk) ≡ store
  pub bytes : (old new : MemDisk) (calls : List DeviceCall) → IsSettled (medium (memory_disk old)) → (memory_disk new).calls ≡ (memory_disk old).calls ++ calls
      → disk_bytes (memory_disk new) ≡ image_after (disk_bytes (memory_disk old)) calls
  pub stop : (old new : MemDisk) (store : StoreState) (next : List ℕ) → Fits codec (memory_disk old) store
      → EndsAmid (planned codec store next) (memory_disk old) (memory_disk new) (disk_countdown old) (disk_countdown new)
      → (HasRisen (disk_countdown old).others (disk_countdown new).others → ⊥) → IsStop (disk_countdown old).left (planned codec store next)
  pub image : (old new : MemDisk) (store : StoreState) (next : List ℕ) → Fits codec (memory_disk old) store
      → EndsAmid (planned codec store next) (memory_disk old) (memory_disk new) (disk_countdown old) (disk_countdown new)
      → (HasRisen (disk_countdown old).others (disk_countdown new).others → ⊥) → (mode : Mode)
      → (bytes_of (memory_disk new).calls).left mode ≡ stopped_image mode (disk_bytes (memory_disk old)) (planned codec store next) (disk_countdown old).left
  pub reads : (old new : MemDisk) (store : StoreState) (next : List ℕ) → Fits codec (memory_disk old) store
      → EndsAmid (planned codec store next) (memory_disk old) (memory_disk new) (disk_countdown old) (disk_countdown new)
      → (HasRisen (disk_countdown old).others (disk_countdown new).others → ⊥) → (mode : Mode) → CanSave codec store next
      → reading codec store.layout ((bytes_of (memory_disk new).calls).left mode) ≡ stopped_reading codec mode store (disk_bytes (memory_disk old)) next (disk_countdown old).left
  pub generation : (old new : MemDisk) (store : StoreState) (next : List ℕ) → Fits codec (memory_disk old) store
      → EndsAmid (planned codec store next) (memory_disk old) (memory_disk new) (disk_countdown old) (disk_countdown new)
      → (HasRisen (disk_countdown old).others (disk_countdown new).others → ⊥) → (mode : Mode) → CanSave codec store next
      → (store_of codec store.layout ((bytes_of (memory_disk new).calls).left mode)).generation ≤ store.generation + 1
