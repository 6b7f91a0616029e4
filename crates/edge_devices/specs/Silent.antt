-- What contracts see of real objects, which tell nothing but their counts of faults.
use Rattle.std.specs.Prelude.{ℕ, [], false, None}
use Rattle.edge_devices.specs.Clocks.{ClockState, EntropyState}
use Rattle.edge_devices.specs.Disks.{DiskState, Countdown}
use Rattle.edge_devices.specs.Folders.{FolderState}

abbrev pub silent_folder : ℕ → FolderState
silent_folder faults = record { told = false; files = λ area name. None; calls = []; faults = faults }

abbrev pub silent_clock : ℕ → ClockState
silent_clock faults = record { told = false; waits = []; faults = faults }

abbrev pub silent_entropy : ℕ → EntropyState
silent_entropy faults = record { told = false; left = []; calls = []; faults = faults }

abbrev pub silent_disk : ℕ → DiskState
silent_disk faults = record { told = false; faults = faults; moment = 0; history = λ _. record { seen = λ _. 0; pending = λ _. false }; calls = [] }

abbrev pub silent_countdown : Countdown
silent_countdown = record { left = 0; others = 0 }
