-- What contracts see of the folder in memory.
use Rattle.std.specs.Prelude.{◌≡◌, ℕ, List, true, Option, Some, None, if◌then◌else◌}
use Rattle.plain_values.specs.declared.maps.Map.{Map}
use Rattle.plain_values.specs.Pairs.{value_at}
use Rattle.edge_devices.specs.declared.folders.Area.{Area}
use Rattle.edge_devices.specs.declared.folders.Area.TheVariants.{Config, Packages, Status}
use Rattle.edge_devices.specs.declared.shelves.Shelves.{Shelves}
use Rattle.edge_devices.specs.declared.memory_folder.MemoryFolder.{MemoryFolder}
use Rattle.edge_devices.specs.Folders.{FolderState, Files, SameOthers}
use Rattle.edge_devices.specs.Names.{is_good_name}
use Rattle.edge_devices.specs.Schedules.{ScheduleState}

-- the pairs of an area
abbrev pub pairs_of : Shelves → Area → Map (Option (List ℕ))
pairs_of shelves Config = shelves.config
pairs_of shelves Packages = shelves.packages
pairs_of shelves Status = shelves.status

-- a file that was removed is not there
abbrev pub body_of : Option (Option (List ℕ)) → Option (List ℕ)
body_of None = None
body_of (Some body) = body

-- the files that the pairs of an area stand for; only a good name has one
abbrev pub files_held : Map (Option (List ℕ)) → Files
files_held pairs = λ name. if is_good_name name then body_of (value_at pairs name) else None

unfoldable pub shelf_files : Shelves → Area → Files
shelf_files shelves area = files_held (pairs_of shelves area)

-- This file is now so, and all others are as they were.
pub record Puts (old new : Area → Files) (area : Area) (name : List ℕ) (body : Option (List ℕ)) : Type 0 where
  pub held : new area name ≡ body
  pub others : SameOthers area name old new

abbrev pub memory_folder : MemoryFolder → FolderState
memory_folder folder = record {
  told = true;
  files = shelf_files folder.files;
  calls = folder.calls.items;
  faults = folder.schedule.faults;
}

-- which of its calls fail, and how many did
abbrev pub folder_schedule : MemoryFolder → ScheduleState
folder_schedule folder = folder.schedule
