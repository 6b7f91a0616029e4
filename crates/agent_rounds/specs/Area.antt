-- What rounds leave of the area of configuration files.
use Rattle.std.specs.Prelude.{◌≡◌, ◌⊎◌, ◌≤◌, ℕ, false, Result, Ok, Err}
use Rattle.edge_devices.specs.declared.folders.Area.TheVariants as areas
use Rattle.edge_devices.specs.Faults.{HasRisen}
use Rattle.agent_config.specs.Config.{AreFiles, files_of}
use Rattle.agent_rounds.specs.declared.ends.AgentEnd.{AgentEnd}
use Rattle.agent_rounds.specs.declared.held.Settling.{Settling}
use Rattle.agent_rounds.specs.declared.held.Settling.TheVariants.{First, Again, Settled}
use Rattle.agent_rounds.specs.Moments.{is_store_fault}
use Rattle.agent_rounds.specs.Stages.{Stage}

-- the area has the files of the agent's configuration, and no others
abbrev pub HasConfig : Stage → Type 0
HasConfig s = AreFiles (s.folder.files areas.Config) (files_of s.half.saved.config.config_map)

-- the next round begins by settling the area
abbrev pub IsDue : Settling → Type 0
IsDue First = Unit {0}
IsDue Again = Unit {0}
IsDue Settled = ⊥

abbrev pub HasConfigOrDue : Stage → Type 0
HasConfigOrDue s = HasConfig s ⊎ IsDue s.held.settling

-- From one count of faults to the other, at some time between, a call failed.
pub record FailsBetween (old new : ℕ) : Type 0 where
  pub before : ℕ
  pub after : ℕ
  pub begins : old ≤ before
  pub rises : HasRisen before after
  pub ends : after ≤ new

-- A part or a run that goes on leaves the area with the configuration's files, or the folder failed in it and the settling is due; one that ends leaves
-- the files or a settling that is due, unless the agent's disk failed.
abbrev pub LeavesConfig : {T : Type 0} → Stage → Stage → Result T AgentEnd → Type 0
LeavesConfig s t (Ok value) = HasConfig t ⊎ (IsDue t.held.settling × FailsBetween s.folder.faults t.folder.faults)
LeavesConfig s t (Err end) = is_store_fault end ≡ false → HasConfigOrDue t

-- The agent's configuration is the former one, or the area has the files of the new one.
abbrev pub IsFormerOrApplied : Stage → Stage → Type 0
IsFormerOrApplied s t = (t.half.saved.config ≡ s.half.saved.config) ⊎ HasConfig t
