-- What contracts see of the clock, the source of random bytes and the dialer in memory.
use Rattle.std.specs.Prelude.{◌≡◌, ◌⊎◌, ℕ, List, [], ◌∷◌, Bool, true, false, Option, Some, None, drop, length, nat_le, if◌then◌else◌}
use Rattle.edge_devices.specs.declared.memory_clocks.MemoryClock.{MemoryClock}
use Rattle.edge_devices.specs.declared.memory_clocks.MemoryEntropy.{MemoryEntropy}
use Rattle.edge_devices.specs.declared.memory_dialer.MemoryDialer.{MemoryDialer}
use Rattle.edge_devices.specs.Clocks.{ClockState, EntropyState}
use Rattle.edge_devices.specs.Dialers.{DialerState}
use Rattle.edge_devices.specs.Schedules.{ScheduleState, IsListed}

abbrev pub memory_clock : MemoryClock → ClockState
memory_clock clock = record { told = true; waits = clock.waits.items; faults = clock.schedule.faults }

abbrev pub clock_schedule : MemoryClock → ScheduleState
clock_schedule clock = clock.schedule

abbrev pub memory_entropy : MemoryEntropy → EntropyState
memory_entropy source = record { told = source.told; left = drop source.at source.draws.items; calls = source.calls.items; faults = source.schedule.faults }

abbrev pub entropy_schedule : MemoryEntropy → ScheduleState
entropy_schedule source = source.schedule

-- the source has nothing to give to the next call
abbrev pub HasNoDraw : MemoryEntropy → Type 0
HasNoDraw source = IsListed source.schedule ⊎ ((memory_entropy source).left ≡ [])

abbrev pub memory_dialer : MemoryDialer → DialerState
memory_dialer dialer = record { told = true; calls = dialer.calls.items; faults = dialer.schedule.faults; wants = dialer.wants }

abbrev pub dialer_schedule : MemoryDialer → ScheduleState
dialer_schedule dialer = dialer.schedule

-- the answers that are left
abbrev pub answers_left : MemoryDialer → List (List ℕ)
answers_left dialer = dialer.answers

-- the files that are left
abbrev pub files_left : MemoryDialer → List (List ℕ)
files_left dialer = dialer.files

-- what comes unasked at each call from now on: a message, or none
abbrev pub arrivals_left : MemoryDialer → List (Option (List ℕ))
arrivals_left dialer = dialer.arrivals

-- what comes at the next call; behind the list nothing comes
abbrev pub next_of : List (Option (List ℕ)) → Option (List ℕ)
next_of [] = None
next_of (message ∷ messages) = message

-- the first of the blobs
abbrev pub first_of : List (List ℕ) → Option (List ℕ)
first_of [] = None
first_of (blob ∷ blobs) = Some blob

-- the first of the files is there and has at most 16,777,216 bytes
abbrev pub can_fetch : List (List ℕ) → Bool
can_fetch [] = false
can_fetch (file ∷ files) = nat_le (length file) 16777216

-- the first of the files, where it can be fetched
abbrev pub next_fetched : List (List ℕ) → Option (List ℕ)
next_fetched files = if can_fetch files then first_of files else None

-- no file is given to the next call
abbrev pub HasNoFile : MemoryDialer → Type 0
HasNoFile dialer = IsListed dialer.schedule ⊎ (can_fetch dialer.files ≡ false)

-- no answer is given to the next call
abbrev pub HasNoAnswer : MemoryDialer → Type 0
HasNoAnswer dialer = IsListed dialer.schedule ⊎ (dialer.answers ≡ [])
