-- What contracts see of a dialer over sockets, which tells nothing but its counts of faults and of want of memory.
use Rattle.std.specs.Prelude.{ℕ, [], false}
use Rattle.edge_devices.specs.Dialers.{DialerState}

abbrev pub silent_dialer : ℕ → ℕ → DialerState
silent_dialer faults wants = record { told = false; calls = []; faults = faults; wants = wants }
