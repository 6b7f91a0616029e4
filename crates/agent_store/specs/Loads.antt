-- The store that a load of an image gives, and the image that device calls leave.
use Rattle.std.specs.Prelude.{ℕ, List, true, false}
use Rattle.edge_devices.specs.Disks.{DeviceCall}
use Rattle.edge_devices.specs.DiskStops.{settled, bytes_after}
use Rattle.agent_store.specs.declared.slots.Layout.{Layout}
use Rattle.agent_store.specs.declared.slots.Side.{Side}
use Rattle.agent_store.specs.declared.slots.Choice.{Choice}
use Rattle.agent_store.specs.declared.slots.Choice.TheVariants.{Neither, Twins, Slot}
use Rattle.agent_store.specs.Codecs.{Codec}
use Rattle.agent_store.specs.Log.{Standing, Ends, Broken}
use Rattle.agent_store.specs.Slots.{other, is_open, generation_of, chosen, standing}
use Rattle.agent_store.specs.Store.{StoreState, fresh_store}
use Rattle.agent_store.specs.Plans.{planned}

-- the store of a part that stands in this slot
abbrev pub store_with : Layout → (ℕ → ℕ) → Side → Standing → StoreState
store_with layout image side (Ends part tail) = record {
  layout = layout;
  target = other side;
  target_open = is_open layout image (other side);
  kept = true;
  generation = generation_of layout image side;
  tail = tail;
  part = part;
  broken = false;
}
store_with layout image side Broken = fresh_store layout

abbrev pub store_by : Codec → Layout → (ℕ → ℕ) → Choice → StoreState
store_by codec layout image Neither = fresh_store layout
store_by codec layout image Twins = fresh_store layout
store_by codec layout image (Slot side) = store_with layout image side (standing codec layout image side)

-- the store that a load of this image gives, where the image is not damaged
unfoldable pub store_of : Codec → Layout → (ℕ → ℕ) → StoreState
store_of codec layout image = store_by codec layout image (chosen layout image)

-- the device calls of a save of this part, on a disk of these bytes
unfoldable pub save_calls : Codec → Layout → (ℕ → ℕ) → List ℕ → List DeviceCall
save_calls codec layout image next = planned codec (store_of codec layout image) next

-- the bytes of a disk of which nothing was pending, after these calls
unfoldable pub image_after : (ℕ → ℕ) → List DeviceCall → ℕ → ℕ
image_after image calls = (bytes_after (settled image) calls).seen
