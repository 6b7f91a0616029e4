-- What the disk and the folder tell of a run before it begins.
use Rattle.std.specs.Prelude.{◌≡◌, ℕ, ◌-◌, ◌<◌, ◌^◌, List, Bool, true, false, Option, None, Ok, codes, IsTrue}
use Rattle.message_values.specs.declared.custom.CustomCapabilities.{CustomCapabilities}
use Rattle.message_values.specs.declared.report.AgentToServer.{AgentToServer}
use Rattle.edge_devices.specs.declared.folders.Area.TheVariants as areas
use Rattle.edge_devices.specs.Disks.{DiskState, disk_bytes}
use Rattle.edge_devices.specs.Folders.{FolderState}
use Rattle.agent_store.specs.Slots.{Holds, reading}
use Rattle.agent_rules.specs.declared.saved.Saved.{Saved}
use Rattle.agent_rules.specs.Codec.{codec}
use Rattle.agent_rules.specs.Payloads.{canonical_saved}
use Rattle.message_handlers.specs.Names.{IsOrdered}
use Rattle.agent_rules.specs.Reports.{fits_message, message_of}
use Rattle.agent_rules.specs.Half.{entry_of, started}
use Rattle.agent_rounds.specs.Parts.{TellsStatus}
use Rattle.agent_rounds.specs.Status.{local_by}
use Rattle.command_agent.specs.Starting.{store_layout}

-- The disk tells a store that keeps a part, and the part is so.
pub record KeepsPart (disk : DiskState) (IsSo : Saved → Type 0) : Type 0 where
  pub told : IsTrue disk.told
  pub bytes : List ℕ
  pub kept : reading codec store_layout (disk_bytes disk) ≡ Holds bytes
  pub each : (part : Saved) → canonical_saved part ≡ bytes → IsSo part

-- no number is left for a report of an agent that goes on with this part
abbrev pub LeavesNoNumber : Saved → Type 0
LeavesNoNumber part = 2 ^ 64 - 1025 < part.limit

-- the first report of an agent that goes on with this part, whether it asks for an identifier, is too large, whatever the folder's status file means to it and
-- in whichever order the names of its handlers come
abbrev pub IsTooLargeToTell : List (List ℕ) → FolderState → Bool → Saved → Type 0
IsTooLargeToTell handlers folder asks_uid part = (status : Option AgentToServer) → TellsStatus None (Ok (folder.files areas.Status (codes "status.pb"))) status
    → (names : CustomCapabilities) → IsOrdered handlers names.capabilities
    → fits_message (message_of (entry_of (started (local_by status part.config names) part true store_layout.room asks_uid))) ≡ false
