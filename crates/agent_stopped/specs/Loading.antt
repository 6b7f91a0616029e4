-- What a load gives an agent that starts.
use Rattle.std.specs.Prelude.{◌≡◌, ℕ, IsTrue}
use Rattle.edge_devices.specs.Disks.{disk_bytes}
use Rattle.edge_devices.specs.MemoryDisks.{memory_disk}
use Rattle.edge_devices.specs.declared.memory_disk.MemDisk.{MemDisk}
use Rattle.agent_store.specs.Found.{AllKept, reading_of}
use Rattle.agent_store.specs.Slots.{reading}
use Rattle.agent_store.specs.Store.{Fits}
use Rattle.agent_rules.specs.Codec.{codec}
use Rattle.agent_rules.specs.Payloads.{canonical_saved, FitsTypes}
use Rattle.agent_rules.specs.Right.{is_right}
use Rattle.agent_stopped.specs.declared.opening.Opening.{Opening}
use Rattle.agent_stopped.specs.declared.starting.Loaded.{Loaded}

-- what these bytes stand for was loaded, and they are the disk's
pub record IsLoaded (opening : Opening) (image : ℕ → ℕ) (disk : MemDisk) (loaded : Loaded) : Type 0 where
  pub reads : reading_of canonical_saved loaded.opened ≡ reading codec opening.layout image
  pub right : AllKept (λ s. IsTrue (is_right s)) loaded.opened
  pub typed : AllKept FitsTypes loaded.opened
  pub fits : Fits codec (memory_disk disk) loaded.store
  pub layout : loaded.store.layout ≡ opening.layout
  pub settings : loaded.settings ≡ opening.settings
  pub same : disk_bytes (memory_disk disk) ≡ image
