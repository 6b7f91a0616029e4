-- What contracts see of the disk in memory.
use Rattle.std.specs.Prelude.{Bool}
use Rattle.edge_devices.specs.Disks.{DiskState, Countdown}
use Rattle.edge_devices.specs.DiskReplays.{mem_state}
use Rattle.edge_devices.specs.Schedules.{ScheduleState}
use Rattle.edge_devices.specs.declared.memory_disk.MemDisk.{MemDisk}

abbrev pub memory_disk : MemDisk → DiskState
memory_disk disk = mem_state disk.calls.items disk.tally.faults

abbrev pub disk_countdown : MemDisk → Countdown
disk_countdown disk = record { left = disk.stop.left; others = disk.tally.others }

-- which of its calls fail, and how many did
abbrev pub disk_schedule : MemDisk → ScheduleState
disk_schedule disk = record { failing = disk.failing.items; next = disk.made; faults = disk.tally.faults; short = disk.tally.short }

-- a device call was stopped since the last call of arm
abbrev pub was_stopped : MemDisk → Bool
was_stopped disk = disk.stop.stopped
