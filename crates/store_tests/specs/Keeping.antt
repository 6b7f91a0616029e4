-- What a keeper over a store keeps, and what a crash leaves of it.
use Rattle.std.specs.Prelude.{◌≡◌, ◌<◌, ◌≤◌, ◌^◌, ℕ, List, length, Some, IsTrue}
use Rattle.edge_devices.specs.Disks.{DiskState, MayLeave, disk_bytes}
use Rattle.agent_store.specs.Codecs.{Codec, IsRight}
use Rattle.agent_store.specs.declared.slots.Layout.{Layout}
use Rattle.agent_store.specs.Slots.{StandsFor}
use Rattle.agent_store.specs.Store.{Fits, StoreState}

-- the layout of the lab's agent: slots of 2,097,152 bytes, logs of 65,536
abbrev pub large : Layout
large = record { room = 2097152; log = 65536 }

-- what a codec makes of the values of a type
pub record Meaning (P : Type 0) : Type 0 where
  pub codec : Codec
  pub canonical : P → List ℕ

-- Whoever loads the disk finds this part, which means itself.
pub record HoldsPart {P : Type 0} (IsRightPart IsTypedPart : P → Type 0) (meaning : Meaning P) (disk : DiskState) (part : P) : Type 0 where
  pub right : IsRightPart part
  pub typed : IsTypedPart part
  pub short : length (meaning.canonical part) < 2 ^ 62
  pub itself : IsRight meaning.codec (meaning.canonical part)
  pub stands : StandsFor meaning.codec large (disk_bytes disk) (Some (meaning.canonical part))

-- A store of this layout fits its disk, which tells.
pub record IsReady (codec : Codec) (disk : DiskState) (store : StoreState) : Type 0 where
  pub fits : Fits codec disk store
  pub layout : store.layout ≡ large
  pub told : IsTrue disk.told

-- A crash at a moment from the one to the other may leave this image.
pub record IsLeft (old new : DiskState) (image : ℕ → ℕ) : Type 0 where
  pub at : ℕ
  pub from : old.moment ≤ at
  pub to : at ≤ new.moment
  pub left : MayLeave (new.history at) image
