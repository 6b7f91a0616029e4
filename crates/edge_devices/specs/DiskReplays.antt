-- The row of bytes that a record of calls leads to, from a disk never written.
use Rattle.std.specs.Prelude.{◌≡◌, ℕ, ◌≤◌, ◌+◌, ◌-◌, Bool, true, false, ◌&&◌, List, [], ◌∷◌, length, take, slice_index, nat_lt, nat_le, if◌then◌else◌}
use Rattle.edge_devices.specs.Disks.{Medium, DiskState, DeviceCall, Writes, Cuts, Syncs, Crash}
use Rattle.edge_devices.specs.declared.disk_calls.Cell.{Cell}
use Rattle.edge_devices.specs.declared.disk_calls.Mode.{Mode}
use Rattle.edge_devices.specs.declared.disk_calls.Mode.TheVariants.{Old, New, Torn}
use Rattle.edge_devices.specs.declared.disk_calls.Call.{Call}
use Rattle.edge_devices.specs.declared.disk_calls.Call.TheVariants.{Wrote, Cut, Synced, Crashed}

abbrev pub is_inside : ℕ → ℕ → ℕ → Bool
is_inside at n place = nat_le at place && nat_lt place (at + n)

-- a byte with nothing pending
abbrev pub settled_cell : ℕ → Cell
settled_cell byte = record { kept = byte; seen = byte; newest = byte; pending = false }

-- what a crash leaves of a pending byte
abbrev pub crashed_byte : Mode → Cell → ℕ
crashed_byte Old cell = cell.kept
crashed_byte New cell = cell.newest
crashed_byte Torn cell = 170

-- the byte at a place after a call
abbrev pub cell_after : Cell → Call → ℕ → Cell
cell_after cell (Wrote at bytes) place =
    if is_inside at (length bytes.items) place then record { kept = cell.kept; seen = slice_index bytes.items (place - at); newest = slice_index bytes.items (place - at); pending = true } else cell
cell_after cell (Cut at bytes) place =
    if is_inside at (length bytes.items) place then record { kept = cell.kept; seen = cell.seen; newest = slice_index bytes.items (place - at); pending = true } else cell
cell_after cell Synced place = settled_cell cell.seen
cell_after cell (Crashed mode) place = settled_cell (if cell.pending then crashed_byte mode cell else cell.seen)

abbrev pub after_call : (ℕ → Cell) → Call → ℕ → Cell
after_call row call = λ place. cell_after (row place) call place

abbrev pub after_from : (ℕ → Cell) → List Call → ℕ → Cell
after_from row [] = row
after_from row (call ∷ calls) = after_from (after_call row call) calls

-- never written
abbrev pub blank : ℕ → Cell
blank = λ _. settled_cell 0

abbrev pub after : List Call → ℕ → Cell
after calls = after_from blank calls

-- the row as contracts of the disk see it
abbrev pub medium_of : (ℕ → Cell) → Medium
medium_of row = record { seen = λ place. (row place).seen; pending = λ place. (row place).pending }

-- the medium at each moment
unfoldable pub history_of : List Call → ℕ → Medium
history_of calls t = medium_of (after (take t calls))

-- the calls that reached the disk, and its crashes
unfoldable pub device_calls : List Call → List DeviceCall
device_calls [] = []
device_calls (Wrote at bytes ∷ calls) = Writes at bytes.items ∷ device_calls calls
device_calls (Cut at bytes ∷ calls) = Cuts at bytes.items ∷ device_calls calls
device_calls (Synced ∷ calls) = Syncs ∷ device_calls calls
device_calls (Crashed mode ∷ calls) = Crash mode ∷ device_calls calls

-- the disk of this record
abbrev pub mem_state : List Call → ℕ → DiskState
mem_state calls faults = record { told = true; faults = faults; moment = length calls; history = history_of calls; calls = device_calls calls }

-- what a crash in this mode leaves of a byte
abbrev pub left_byte : Mode → Cell → ℕ
left_byte mode cell = if cell.pending then crashed_byte mode cell else cell.seen

-- after a crash each byte is as the mode says
abbrev pub Crashes : Mode → List Call → List Call → Type 0
Crashes mode old new = (place : ℕ) → (after new place).seen ≡ left_byte mode (after old place)

-- the bytes are what a read gives, and behind them nothing was written
pub record IsContent (content : List ℕ) (calls : List Call) : Type 0 where
  pub seen : (place : ℕ) → (after calls place).seen ≡ slice_index content place
  pub blank : (place : ℕ) → length content ≤ place → (after calls place).pending ≡ false

-- nothing is pending
abbrev pub NonePending : List Call → Type 0
NonePending calls = (place : ℕ) → (after calls place).pending ≡ false
