-- What a disk leaves on which nothing is pending.
use Rattle.std.proofs.Common.{◌≡◌, ℕ, ap, ◌∙◌}
use Rattle.agent_store.specs.Codecs.{Codec}
use Rattle.edge_devices.specs.Disks.{DiskState, medium, disk_bytes, MayLeave, IsSettled}
use Rattle.agent_store.specs.declared.slots.Layout.{Layout}
use Rattle.agent_store.specs.Slots.{Reading, reading}

-- a crash leaves what a read gives, so it stands for the same
pub only-read : (codec : Codec) (layout : Layout) (disk : DiskState) (stands : Reading) → IsSettled (medium disk) → reading codec layout (disk_bytes disk) ≡ stands
    → (image : ℕ → ℕ) → MayLeave (medium disk) image → reading codec layout image ≡ stands
only-read codec layout disk stands settled is image left = let same : image ≡ disk_bytes disk = λ i place. left place (settled place) i in ap (reading codec layout) same ∙ is
