-- An agent over a disk in memory.
use Rattle.edge_devices.specs.declared.memory_disk.MemDisk.{MemDisk}
use Rattle.edge_devices.specs.MemoryDisks.{memory_disk}
use Rattle.agent_rules.specs.Half.{kept_part}
use Rattle.agent_state.specs.View.{AgentView, FitsDisk}

-- the disk is that of the agent's store, which isn't broken
abbrev pub IsWell : MemDisk → AgentView → Type 0
IsWell disk agent = FitsDisk (memory_disk disk) agent.store (kept_part agent.half)
