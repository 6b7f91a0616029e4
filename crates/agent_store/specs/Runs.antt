-- What each image stands for that a crash may leave of a disk.
use Rattle.std.specs.Prelude.{ℕ, List, Option}
use Rattle.agent_store.specs.Codecs.{Codec}
use Rattle.edge_devices.specs.Disks.{DiskState, medium, MayLeave}
use Rattle.agent_store.specs.declared.slots.Layout.{Layout}
use Rattle.agent_store.specs.Slots.{NotDamaged, StandsFor}

-- no image that a crash may leave now is damaged
abbrev pub IsUndamaged : Codec → Layout → DiskState → Type 0
IsUndamaged codec layout disk = (image : ℕ → ℕ) → MayLeave (medium disk) image → NotDamaged codec layout image

-- each image that a crash may leave now stands for this
abbrev pub LeavesOnly : Codec → Layout → DiskState → Option (List ℕ) → Type 0
LeavesOnly codec layout disk part = (image : ℕ → ℕ) → MayLeave (medium disk) image → StandsFor codec layout image part
