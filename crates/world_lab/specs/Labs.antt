-- A lab, as contracts see it: an agent or none, its servers, and what its disk and its folder hold.
use Rattle.std.specs.Prelude.{◌≡◌, ℕ, List, [], ◌++◌, map, Option, None, Some}
use Rattle.std.specs.Io.KnownBytes.{Appends}
use Rattle.std.specs.Option.{option_map}
use Rattle.plain_values.specs.declared.files.AgentConfigMap.{AgentConfigMap}
use Rattle.edge_devices.specs.declared.memory_disk.MemDisk.{MemDisk}
use Rattle.edge_devices.specs.declared.memory_folder.MemoryFolder.{MemoryFolder}
use Rattle.edge_devices.specs.declared.folders.Area.{Area}
use Rattle.edge_devices.specs.declared.folders.Area.TheVariants.{Config, Packages, Status}
use Rattle.edge_devices.specs.Disks.{disk_bytes}
use Rattle.edge_devices.specs.Folders.{Files}
use Rattle.edge_devices.specs.MemoryDisks.{memory_disk}
use Rattle.edge_devices.specs.MemoryFolders.{memory_folder}
use Rattle.agent_config.specs.Config.{files_of}
use Rattle.agent_store.specs.Slots.{Reading, Nothing, Holds, reading}
use Rattle.agent_rules.specs.declared.saved.Saved.{Saved}
use Rattle.agent_rules.specs.Codec.{codec}
use Rattle.agent_rules.specs.Payloads.{canonical_saved}
use Rattle.server_core.specs.Served.{Served}
use Rattle.server_core.specs.History.{Event as ServerEvent}
use Rattle.agent_state.specs.View.{AgentView}
use Rattle.agent_rules.specs.Half.{AgentHalf, kept_part, no_config}
use Rattle.world_model.specs.Servers.{arrivals}
use Rattle.world_scripts.specs.declared.lines.Line.{Line}
use Rattle.world_lab.specs.declared.plays.TheConstants.{LAYOUT}
use Rattle.world_lab.specs.Playing.{endpoint_of, script_start, script_events, script_world}
use Rattle.world_lab.specs.Histories.{no_files, server_after, server_numbers}

-- the parts of a lab
pub record LabShown : Type 0 where
  pub agent : Option AgentView
  pub servers : List Served
  pub disk : MemDisk
  pub folder : MemoryFolder

-- what they are and hold
pub record LabState : Type 0 where
  pub agent : Option AgentHalf
  pub servers : List Served
  -- what the disk reads: nothing yet, or what the agent keeps in canonical form
  pub kept : Reading
  pub files : Area → Files

abbrev pub lab_state : LabShown → LabState
lab_state lab = record {
  agent = option_map (λ a. a.half) lab.agent;
  servers = lab.servers;
  kept = reading codec LAYOUT (disk_bytes (memory_disk lab.disk));
  files = (memory_folder lab.folder).files;
}

-- the disk reads this
abbrev pub reading_of_part : Option Saved → Reading
reading_of_part None = Nothing
reading_of_part (Some saved) = Holds (canonical_saved saved)

-- the files of the configuration, and no others
abbrev pub files_in_use : AgentConfigMap → Area → Files
files_in_use config Config = files_of config.config_map
files_in_use config Packages = no_files
files_in_use config Status = no_files

-- no script was played: there is no agent, no server holds one, nothing is kept, and there are no files
abbrev pub unplayed : LabState
unplayed = record {
  agent = None;
  servers = map (λ server. server_after []) server_numbers;
  kept = Nothing;
  files = files_in_use no_config;
}

-- The lab that an agent leaves, where this reached the servers since their last restarts: the disk reads what the agent keeps, and the folder holds its
-- active configuration.
abbrev pub left_by : AgentHalf → (List ℕ → List ServerEvent) → LabState
left_by a history = record {
  agent = Some a;
  servers = map (λ server. server_after (history (endpoint_of server))) server_numbers;
  kept = reading_of_part (kept_part a);
  files = files_in_use a.saved.config;
}

-- The lab after a script: the agent is that of the run's last world, and each server's table is that of what reached it since its last restart.
abbrev pub played : List Line → LabState
played lines = left_by (script_world lines).agent (arrivals script_start (script_events lines))

-- the sink took a front of these bytes, where it tells
pub record AppendsFrontOf (old new : Option (List ℕ)) (whole : List ℕ) : Type 0 where
  pub front : List ℕ
  pub rest : List ℕ
  pub parts : front ++ rest ≡ whole
  pub taken : Appends old new front
