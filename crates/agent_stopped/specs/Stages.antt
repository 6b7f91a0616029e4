-- How far calls of an agent lead, of whose device calls one may be stopped.
use Rattle.std.specs.Prelude.{◌≡◌, ℕ, List, ◌++◌}
use Rattle.edge_devices.specs.Disks.{disk_bytes}
use Rattle.edge_devices.specs.DiskStops.{bytes_of}
use Rattle.edge_devices.specs.MemoryDisks.{memory_disk, disk_countdown}
use Rattle.edge_devices.specs.declared.disk_calls.Mode.{Mode}
use Rattle.edge_devices.specs.declared.memory_disk.MemDisk.{MemDisk}
use Rattle.agent_store.specs.declared.slots.Layout.{Layout}
use Rattle.agent_rules.specs.Half.{AgentHalf, restarted}
use Rattle.agent_rules.specs.Keeping.{Call}
use Rattle.agent_rules.specs.Calls.{calls_after, saves_of}
use Rattle.agent_rules.specs.Events.{AgentEvent, Crashes, agent_after, keeping_first}
use Rattle.agent_state.specs.View.{AgentView}
use Rattle.agent_stopped.specs.Endings.{Ending, Passed, Stopped, saves_end}

-- an agent's half, the bytes of its disk, and how many device calls there are up to the one that is stopped, 0 where none is
pub record Stage : Type 0 where
  pub half : AgentHalf
  pub image : ℕ → ℕ
  pub left : ℕ

abbrev pub stage_of : AgentView → MemDisk → Stage
stage_of agent disk = record { half = agent.half; image = disk_bytes (memory_disk disk); left = (disk_countdown disk).left }

-- Calls were made and left this half, on these bytes. Or a device call was stopped, a crash left these bytes, and the agent started again from them.
pub data Outcome : Type 0 where
  Done : (half : AgentHalf) (image : ℕ → ℕ) → Outcome
  Crashed : (half : AgentHalf) (image : ℕ → ℕ) → Outcome

abbrev pub outcome_by : AgentHalf → List Call → Ending → Outcome
outcome_by a calls (Passed image) = Done (calls_after a calls) image
outcome_by a calls (Stopped saves image) = Crashed (restarted (keeping_first saves (saves_of a calls) a)) image

-- what these calls come to
unfoldable pub outcome : Layout → Mode → Stage → List Call → Outcome
outcome layout mode stage calls = outcome_by stage.half calls (saves_end layout mode stage.left stage.image (saves_of stage.half calls))

-- what an event comes to of an agent with this half
abbrev pub event_by : AgentHalf → AgentEvent → Ending → Outcome
event_by a event (Passed image) = Done (agent_after a event) image
event_by a event (Stopped saves image) = Crashed (agent_after a (Crashes event saves)) image

-- The calls lead from one stage to the other: whatever calls follow, all come to what those that follow come to from there.
pub record Leads (layout : Layout) (from : Stage) (calls : List Call) (to : Stage) : Type 0 where
  pub on : (mode : Mode) (rest : List Call) → outcome layout mode from (calls ++ rest) ≡ outcome layout mode to rest
  pub local : to.half.local ≡ from.half.local

-- what a crash now leaves of a disk
abbrev pub left_on : MemDisk → Mode → ℕ → ℕ
left_on disk mode = (bytes_of (memory_disk disk).calls).left mode
