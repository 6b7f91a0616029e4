-- What contracts see of a store, and what the store keeps of its disk.
use Rattle.std.specs.Prelude.{◌≡◌, ℕ, ◌+◌, ◌<◌, ◌≤◌, ◌^◌, Bool, true, false, ◌&&◌, nat_le, List, [], length, Some, if◌then◌else◌, IsTrue}
use Rattle.edge_devices.specs.Disks.{DiskState, medium, disk_bytes, IsSettled}
use Rattle.agent_store.specs.declared.slots.Layout.{Layout}
use Rattle.agent_store.specs.declared.slots.Side.{Side}
use Rattle.agent_store.specs.declared.slots.Side.TheVariants.{First}
use Rattle.agent_store.specs.declared.slots.Choice.{Choice}
use Rattle.agent_store.specs.declared.slots.Choice.TheVariants.{Neither, Slot}
use Rattle.agent_store.specs.Codecs.{Codec, IsRight}
use Rattle.agent_store.specs.Log.{Ends}
use Rattle.agent_store.specs.Slots.{other, log_start, log_stop, is_open, generation_of, chosen, standing}

-- The side of the next checkpoint and whether its gate is open. Where a part is kept the other side is the chosen slot, with its generation,
-- and `tail` is the place of the next entry of its log. A fresh store has the generation 0.
pub record StoreState : Type 0 where
  pub layout : Layout
  pub target : Side
  pub target_open : Bool
  pub kept : Bool
  pub generation : ℕ
  pub tail : ℕ
  pub part : List ℕ
  pub broken : Bool

abbrev pub chosen_side : StoreState → Side
chosen_side store = other store.target

-- the slot that the store takes for the chosen one
abbrev pub choice_of : StoreState → Choice
choice_of store = if store.kept then Slot (chosen_side store) else Neither

-- what a store knows of itself, whatever its disk tells
pub record IsSound (store : StoreState) : Type 0 where
  pub from : store.kept ≡ true → log_start store.layout (chosen_side store) ≤ store.tail
  pub to : store.kept ≡ true → store.tail ≤ log_stop store.layout (chosen_side store)
  pub fresh : store.kept ≡ false → store.generation ≡ 0
  pub short : length store.part < 2 ^ 62

-- the store of a disk on which nothing was saved yet
abbrev pub fresh_store : Layout → StoreState
fresh_store layout = record {
  layout = layout;
  target = First;
  target_open = false;
  kept = false;
  generation = 0;
  tail = 0;
  part = [];
  broken = false;
}

-- the image has the gates, the generation, the part and the end of log that the store keeps
pub record Matches (codec : Codec) (image : ℕ → ℕ) (store : StoreState) : Type 0 where
  pub choice : chosen store.layout image ≡ choice_of store
  pub target : store.target_open ≡ is_open store.layout image store.target
  pub generation : store.kept ≡ true → store.generation ≡ generation_of store.layout image (chosen_side store)
  pub stands : store.kept ≡ true → standing codec store.layout image (chosen_side store) ≡ Ends store.part store.tail

-- the store isn't broken, one that keeps nothing is a fresh one, what it keeps may be saved, nothing is pending on the disk, and what a read gives is as the store keeps it
pub record Fits (codec : Codec) (disk : DiskState) (store : StoreState) : Type 0 where
  pub intact : store.broken ≡ false
  pub fresh : store.kept ≡ false → store ≡ fresh_store store.layout
  pub right : store.kept ≡ true → IsRight codec store.part
  pub settled : IsSettled (medium disk)
  pub contents : IsTrue disk.told → Matches codec (disk_bytes disk) store

-- the entry that leads to this part fits in the chosen log, and one further byte
abbrev pub entry_fits : Codec → StoreState → List ℕ → Bool
entry_fits codec store next = store.kept && nat_le (store.tail + 5 + length (codec.change store.part next) + 1) (log_stop store.layout (chosen_side store))

-- the next part means itself, and where its entry fits the change leads to it
pub record CanFollow (codec : Codec) (store : StoreState) (next : List ℕ) : Type 0 where
  pub right : IsRight codec next
  pub leads : entry_fits codec store next ≡ true → codec.changed store.part (codec.change store.part next) ≡ Some next

-- the generation after a save of this part
abbrev pub generation_after : Codec → StoreState → List ℕ → ℕ
generation_after codec store next = if entry_fits codec store next then store.generation else store.generation + 1
