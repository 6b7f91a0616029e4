-- What an agent is started with, and how it stands to its disk.
use Rattle.std.specs.Prelude.{◌≡◌, ℕ, true, false, List, ◌++◌}
use Rattle.edge_devices.specs.MemoryDisks.{memory_disk}
use Rattle.edge_devices.specs.declared.disk_calls.Mode.{Mode}
use Rattle.edge_devices.specs.declared.memory_disk.MemDisk.{MemDisk}
use Rattle.agent_rules.specs.declared.rules.parts.LocalState.{LocalState}
use Rattle.agent_rules.specs.Half.{AgentHalf, first_saved, kept_part, started}
use Rattle.agent_rules.specs.Keeping.{Call}
use Rattle.agent_state.specs.View.{AgentView, FitsDisk, HasPart, MeansItself}
use Rattle.agent_stopped.specs.declared.opening.Opening.{Opening}
use Rattle.agent_stopped.specs.Stages.{Stage, Crashed, outcome, left_on}

-- what is kept can be read again, and is the first where nothing was kept yet
pub record CanReturn (opening : Opening) (a : AgentHalf) : Type 0 where
  pub itself : a.is_kept ≡ true → MeansItself a.saved
  pub first : a.is_kept ≡ false → a.saved ≡ first_saved opening.uid opening.settings
  pub room : a.room ≡ opening.layout.room
  pub asks : a.asks_uid ≡ opening.asks_uid

-- an agent that starts with these bytes has this half
pub record StartsAs (opening : Opening) (local : LocalState) (image : ℕ → ℕ) (a : AgentHalf) : Type 0 where
  pub start : a ≡ started local a.saved a.is_kept opening.layout.room opening.asks_uid
  pub returns : CanReturn opening a
  pub stands : HasPart opening.layout (kept_part a) image

-- the agent is whole, and its disk has what it keeps
pub record IsAtRest (opening : Opening) (agent : AgentView) (disk : MemDisk) : Type 0 where
  pub fits : FitsDisk (memory_disk disk) agent.store (kept_part agent.half)
  pub layout : agent.store.layout ≡ opening.layout
  pub returns : CanReturn opening agent.half

-- A device call of these calls was stopped: whatever calls follow, all come to a crash that leaves the disk's bytes in each mode, and this half with them.
pub record IsStopped (opening : Opening) (from : Stage) (calls : List Call) (disk : MemDisk) : Type 0 where
  pub half : Mode → AgentHalf
  pub ends : (mode : Mode) (rest : List Call) → outcome opening.layout mode from (calls ++ rest) ≡ Crashed (half mode) (left_on disk mode)
  pub starts : (mode : Mode) → StartsAs opening from.half.local (left_on disk mode) (half mode)
