-- A script's agent on its host, and what calls of it lead to.
use Rattle.std.specs.Prelude.{◌≡◌, ◌⊎◌, ℕ, ◌+◌, ◌<◌, ◌≤◌, ◌^◌, Bool, true, false, List, [], ◌∷◌, ◌++◌, Option, None, IfSome}
use Rattle.plain_values.specs.declared.files.AgentConfigMap.{AgentConfigMap}
use Rattle.message_values.specs.declared.connection.ConnectionSettingsOffers.{ConnectionSettingsOffers}
use Rattle.message_values.specs.declared.reply.ServerToAgent.{ServerToAgent}
use Rattle.edge_devices.specs.declared.disk_calls.Mode.{Mode}
use Rattle.edge_devices.specs.declared.folders.Area.TheVariants.{Config, Packages, Status}
use Rattle.edge_devices.specs.Endpoints.{is_endpoint}
use Rattle.edge_devices.specs.MemoryFolders.{memory_folder}
use Rattle.agent_config.specs.Config.{AreFiles, files_of}
use Rattle.agent_store.specs.Loads.{store_of}
use Rattle.agent_rules.specs.Codec.{codec}
use Rattle.agent_rules.specs.Half.{AgentHalf, first_saved, is_empty}
use Rattle.agent_rules.specs.Keeping.{Call, CommitTry, fits}
use Rattle.agent_rules.specs.Calls.{calls_after}
use Rattle.agent_stopped.specs.declared.opening.Opening.{Opening}
use Rattle.agent_stopped.specs.Stages.{Stage, Done, Leads, left_on, outcome, stage_of}
use Rattle.agent_stopped.specs.Starts.{IsAtRest, IsStopped}
use Rattle.world_lab.specs.declared.plays.Host.{Host}
use Rattle.world_lab.specs.declared.plays.TheConstants.{LAYOUT}
use Rattle.world_lab.specs.Playing.{endpoint_of, script_start}
use Rattle.world_lab.specs.Histories.{no_files}
use Rattle.world_lab.specs.Hearing.{all_fit}

-- ---- what the agent of a script comes to use

-- the endpoint is that of a server of the lab
pub record IsServer (endpoint : List ℕ) : Type 0 where
  pub server : ℕ
  pub digit : server < 10
  pub is : endpoint ≡ endpoint_of server

-- the URL is one, or an endpoint that no agent of this profile can use
abbrev pub IsOffered : List ℕ → Type 0
IsOffered url = IsServer url ⊎ ((is_endpoint url ≡ false) × (is_empty url ≡ false))

-- the settings that are offered have such a URL
abbrev pub IsOfferedOne : Option ConnectionSettingsOffers → Type 0
IsOfferedOne offer = IfSome offer (λ o. IfSome o.opamp (λ settings. IsOffered settings.destination_endpoint))

-- a reply of a lab's server: it is to the script's agent, and gives it no identifier
pub record IsReply (reply : ServerToAgent) : Type 0 where
  pub uid : reply.instance_uid ≡ script_start.uid
  pub given : reply.agent_identification ≡ None
  pub packages : reply.packages_available ≡ None
  pub connection : IsOfferedOne reply.connection_settings

-- the script's agent: it has its first identifier, and speaks to servers of the lab alone
pub record IsAgent (a : AgentHalf) : Type 0 where
  pub uid : a.saved.uid ≡ script_start.uid
  pub first : a.is_kept ≡ false → a.saved ≡ first_saved script_start.uid script_start.settings
  pub room : a.room ≡ script_start.room
  pub asks : a.asks_uid ≡ false
  pub active : IsServer a.saved.settings.endpoint
  pub tried : IfSome a.trial (λ settings. IsServer settings.endpoint)

-- ---- the agent on its host

-- what a script's agent is started with, each time
abbrev pub lab_opening : Opening
lab_opening = record { layout = LAYOUT; uid = script_start.uid; settings = script_start.settings; asks_uid = script_start.asks_uid }

-- the folder has no files but those of a configuration
pub record HasNoOthers (host : Host) : Type 0 where
  pub packages : AreFiles ((memory_folder host.folder).files Packages) no_files
  pub status : AreFiles ((memory_folder host.folder).files Status) no_files

-- the folder holds these files as the configuration, and nothing else
pub record HasFiles (host : Host) (active : AgentConfigMap) : Type 0 where
  pub config : AreFiles ((memory_folder host.folder).files Config) (files_of active.config_map)
  pub packages : AreFiles ((memory_folder host.folder).files Packages) no_files
  pub status : AreFiles ((memory_folder host.folder).files Status) no_files

-- a script's agent is whole, and its disk has what it keeps
pub record IsSeated (host : Host) : Type 0 where
  pub agent : IsAgent host.agent.half
  pub rest : IsAtRest lab_opening host.agent host.disk

-- and the folder holds its configuration
pub record IsHosted (host : Host) : Type 0 where
  pub seated : IsSeated host
  pub files : HasFiles host host.agent.half.saved.config

-- so many generations are left
abbrev pub HasGenerations : ℕ → Host → Type 0
HasGenerations n host = host.agent.store.generation + n < 2 ^ 64

-- ---- what calls lead to

-- the agent's half, the bytes of its disk, and how far off the call is that is stopped
abbrev pub stage_at : Host → Stage
stage_at host = stage_of host.agent host.disk

-- calls of which one had no room end here, whatever was to follow
abbrev pub EndsAt : Stage → List Call → Stage → Type 0
EndsAt from calls to = (mode : Mode) (rest : List Call) → outcome LAYOUT mode from (calls ++ rest) ≡ Done to.half to.image

-- The agent goes on by these calls, and what it knows of itself is as before. It is hosted still, and at most so many saves were made.
pub record GoesOn (old new : Host) (calls : List Call) (most : ℕ) : Type 0 where
  pub half : new.agent.half ≡ calls_after old.agent.half calls
  pub local : new.agent.half.local ≡ old.agent.half.local
  pub hosted : IsHosted new
  pub saves : new.agent.store.generation ≤ old.agent.store.generation + most
  -- none of their device calls was stopped
  pub leads : all_fit old.agent.half calls ≡ true → Leads LAYOUT (stage_at old) calls (stage_at new)
  pub ends : all_fit old.agent.half calls ≡ false → EndsAt (stage_at old) calls (stage_at new)

-- A device call of these calls was stopped, after at most so many saves, the one that was stopped included. The agent that starts after a crash is the script's.
pub record StopsIn (old new : Host) (calls : List Call) (most : ℕ) : Type 0 where
  pub stopped : IsStopped lab_opening (stage_at old) calls new.disk
  pub agents : (mode : Mode) → IsAgent (stopped.half mode)
  pub others : HasNoOthers new
  pub saves : (mode : Mode) → (store_of codec LAYOUT (left_on new.disk mode)).generation ≤ old.agent.store.generation + most

-- a call that had no room left all as it was
pub record StaysSo (old new : Host) : Type 0 where
  pub agent : new.agent ≡ old.agent
  pub stage : stage_at new ≡ stage_at old
  pub hosted : IsHosted new

-- the settings under trial were kept, or there was no room for them
abbrev pub Commits : Host → Host → Bool → Type 0
Commits old new true = (fits old.agent.half CommitTry ≡ true) × GoesOn old new (CommitTry ∷ []) 1
Commits old new false = (fits old.agent.half CommitTry ≡ false) × StaysSo old new
