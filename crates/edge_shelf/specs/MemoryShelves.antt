-- What contracts see of the shelf in memory.
use Rattle.std.specs.Prelude.{ℕ, List, [], ◌∷◌, true, Option, Some, None, if◌then◌else◌}
use Rattle.plain_values.specs.declared.maps.Map.{Map}
use Rattle.plain_values.specs.Pairs.{value_at}
use Rattle.edge_devices.specs.Names.{is_good_name}
use Rattle.edge_shelf.specs.Counts.{CountState}
use Rattle.edge_shelf.specs.Shelves.{Body, ShelfState}
use Rattle.edge_shelf.specs.declared.slots.Slot.{Slot}
use Rattle.edge_shelf.specs.declared.memory_shelf.MemoryShelf.{MemoryShelf}
use Rattle.edge_shelf.specs.declared.memory_shelf.Mode.{Mode}
use Rattle.edge_shelf.specs.declared.memory_shelf.Mode.TheVariants.{Former, New}

-- what was asked for and not done
abbrev pub tried_bodies : Option Body → List Body
tried_bodies None = []
tried_bodies (Some body) = body ∷ []

abbrev pub kept_body : Option Slot → Body
kept_body None = None
kept_body (Some slot) = slot.kept

abbrev pub left_bodies : Option Slot → List Body
left_bodies None = None ∷ []
left_bodies (Some slot) = slot.kept ∷ tried_bodies slot.tried

-- only a good name has a file
abbrev pub files_in : Map Slot → List ℕ → Body
files_in slots = λ name. if is_good_name name then kept_body (value_at slots name) else None

abbrev pub left_in : Map Slot → List ℕ → List Body
left_in slots = λ name. if is_good_name name then left_bodies (value_at slots name) else None ∷ []

-- the last that was asked for
abbrev pub newest : Body → Option Body → Body
newest kept None = kept
newest kept (Some body) = body

-- what a stop leaves of a slot: what was done last, or what was asked for last
abbrev pub left_body : Mode → Slot → Body
left_body Former slot = slot.kept
left_body New slot = newest slot.kept slot.tried

abbrev pub settled_slot : Mode → Slot → Slot
settled_slot mode slot = record { kept = left_body mode slot; tried = None }

abbrev pub memory_shelf : MemoryShelf → ShelfState
memory_shelf shelf = record {
  told = true;
  files = files_in shelf.slots;
  left = left_in shelf.slots;
  faults = shelf.counts.faults;
}

-- which of its calls fail, and how many did
abbrev pub shelf_counts : MemoryShelf → CountState
shelf_counts shelf = shelf.counts
