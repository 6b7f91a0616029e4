-- What the two kinds of save make of an image, byte by byte.
use Rattle.std.specs.Prelude.{◌≡◌, ◌≢◌, ◌⊎◌, ℕ, ◌+◌, List, length}
use Rattle.edge_devices.specs.Disks.{HasBytes, IsTorn}
use Rattle.agent_store.specs.declared.slots.Layout.{Layout}
use Rattle.agent_store.specs.declared.slots.Side.{Side}
use Rattle.agent_store.specs.Slots.{IsPlaceOf, other, slot_start, log_start}

-- a slot and its log are as they were
abbrev pub KeepsSide : Layout → Side → (ℕ → ℕ) → (ℕ → ℕ) → Type 0
KeepsSide layout side old image = (place : ℕ) → IsPlaceOf layout side place → image place ≡ old place

-- the slot has these bytes behind its gate, and its log's first gate is closed
pub record HasSlot (layout : Layout) (side : Side) (body : List ℕ) (image : ℕ → ℕ) : Type 0 where
  pub bytes : HasBytes image (slot_start layout side + 1) body
  pub log : image (log_start layout side) ≡ 0

-- the slot is closed, and the other one is as it was
pub record IsClosed (layout : Layout) (side : Side) (old image : ℕ → ℕ) : Type 0 where
  pub elsewhere : KeepsSide layout (other side) old image
  pub gate : image (slot_start layout side) ≢ 1

-- the slot is the new one, and the other one is as it was
pub record IsWritten (layout : Layout) (side : Side) (body : List ℕ) (old image : ℕ → ℕ) : Type 0 where
  pub elsewhere : KeepsSide layout (other side) old image
  pub slot : HasSlot layout side body image
  pub gate : image (slot_start layout side) ≡ 1

-- the image at some moment of the write of a slot
abbrev pub IsWriting : Layout → Side → List ℕ → (ℕ → ℕ) → (ℕ → ℕ) → Type 0
IsWriting layout side body old image = (image ≡ old) ⊎ (IsClosed layout side old image ⊎ IsWritten layout side body old image)

-- an entry has joined at this place, and all else is as it was
pub record IsJoined (tail : ℕ) (entry : List ℕ) (old image : ℕ → ℕ) : Type 0 where
  pub elsewhere : IsTorn tail (1 + length entry) old image
  pub bytes : HasBytes image (tail + 1) entry
  pub gate : image tail ≡ 1

-- the place of the next entry is closed, and all before it is as it was
pub record IsWaiting (tail : ℕ) (entry : List ℕ) (old image : ℕ → ℕ) : Type 0 where
  pub elsewhere : IsTorn tail (1 + length entry) old image
  pub gate : image tail ≢ 1

-- the image at some moment of the write of an entry
abbrev pub IsJoining : ℕ → List ℕ → (ℕ → ℕ) → (ℕ → ℕ) → Type 0
IsJoining tail entry old image = IsWaiting tail entry old image ⊎ IsJoined tail entry old image
