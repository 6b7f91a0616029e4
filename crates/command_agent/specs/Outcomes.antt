-- What comes of `agent`: its output, its status, and what it leaves of all that it is lent. The handlers have these names and may answer so.
use Rattle.std.specs.Prelude.{◌≡◌, ℕ, ◌<◌, ◌⊎◌, List, Option, Ok, IsSome, IsTrue}
use Rattle.std.specs.Io.KnownBytes.{Appends}
use Rattle.message_values.specs.declared.custom.CustomMessage.{CustomMessage}
use Rattle.edge_devices.specs.Disks.{disk_bytes}
use Rattle.edge_devices.specs.Faults.{HasRisen}
use Rattle.edge_devices.specs.Streams.{SinkView}
use Rattle.agent_store.specs.Slots as slots
use Rattle.agent_rules.specs.Codec.{codec}
use Rattle.command_words.specs.declared.commands.AgentOptions.{AgentOptions}
use Rattle.command_agent.specs.declared.endings.Ending.{Ending}
use Rattle.command_agent.specs.declared.lines.Line.TheVariants as lines
use Rattle.command_agent.specs.declared.status.AgentStatus.{AgentStatus}
use Rattle.command_agent.specs.Endings.{Tells}
use Rattle.command_agent.specs.Lines.{text_of}
use Rattle.command_agent.specs.Running.{AgentRuns, DoesAllRounds, EndsSo, FailsOutside, RunsOutOfNumbers, RunsOutOfRoom, Surroundings}
use Rattle.command_agent.specs.Starting.{FindsDamage, store_layout}
use Rattle.command_agent.specs.Statuses.{IsAgentStatus, status_of}
use Rattle.command_agent.specs.Told.{IsTooLargeToTell, KeepsPart, LeavesNoNumber}

-- the sink of a run, and what surrounds the agent
pub record AgentEnds : Type 0 where
  pub sink : SinkView
  pub around : Surroundings

pub record AgentOutcome (names : List (List ℕ)) (answers : CustomMessage → Option CustomMessage → Type 0) (options : AgentOptions) (before after : AgentEnds) (status : ℕ) : Type 0 where
  -- The run ended so, and its ending was told with this status.
  pub ended : (ending : Ending) × (told : AgentStatus) × EndsSo names answers options before.around after.around ending
      × Tells options.rounds ending before.sink.taken after.sink.taken told × (status ≡ status_of told)
  -- A restart was commanded in the round of this number, which was written.
  pub restarted : status ≡ 0 → (round : ℕ) × AgentRuns names answers options before.around after.around (Ok round)
      × Appends before.sink.taken after.sink.taken (text_of (lines.Restart round))
  -- In this call the sink's count rose.
  pub write_fault : status ≡ 4 → HasRisen before.sink.faults after.sink.faults
  -- In this call the disk's count rose.
  pub store_fault : status ≡ 6 → HasRisen before.around.disk.faults after.around.disk.faults
  -- The store is damaged in the slot of this number, which was written, and no round was begun. So it comes where the store is damaged, unless the disk
  -- or the sink failed, or memory was wanting.
  pub damaged : status ≡ 7 → (slot : ℕ) × FindsDamage before.around.disk after.around.disk slot × Appends before.sink.taken after.sink.taken (text_of (lines.Damaged slot))
  pub damage_told : (slot : ℕ) → IsTrue before.around.disk.told → slots.reading codec store_layout (disk_bytes before.around.disk) ≡ slots.Damaged slot
      → (status ≡ 7) ⊎ ((status ≡ 6) ⊎ ((status ≡ 5) ⊎ (status ≡ 4)))
  -- The draw of a fresh store's identifier, the first settling of the folder or a wait of the clock answered its fault; in that call the count rose.
  pub outside_fault : status ≡ 8 → FailsOutside names answers options before.around after.around
  -- All rounds were done, and their number was written.
  pub spent : status ≡ 9 → DoesAllRounds names answers options before.around after.around
      × Appends before.sink.taken after.sink.taken (text_of (lines.Rounds options.rounds))
  -- So it comes where the sink took the line that tells it, unless the sink failed behind that.
  pub spent_told : (rounds : ℕ) → IsSome before.sink.taken → Appends before.sink.taken after.sink.taken (text_of (lines.Rounds rounds)) → (status ≡ 9) ⊎ (status ≡ 4)
  -- No number was left for a report, or no generation of the store for what was to be kept. So it comes where the store keeps a part that leaves no number,
  -- unless the first report was too large, the first settling or the disk failed, or memory was wanting.
  pub numbers_spent : status ≡ 10 → RunsOutOfNumbers names answers options before.around after.around
  pub numbers_told : KeepsPart before.around.disk LeavesNoNumber → 0 < options.rounds
      → (status ≡ 10) ⊎ ((status ≡ 11) ⊎ ((status ≡ 8) ⊎ ((status ≡ 6) ⊎ (status ≡ 5))))
  -- A report was too large, or what was to be kept had no room. So it comes where the store keeps a part that is too large to tell with the folder's status
  -- file, unless the disk or the folder failed, or memory was wanting.
  pub too_large : status ≡ 11 → RunsOutOfRoom names answers options before.around after.around
  pub size_told : KeepsPart before.around.disk (IsTooLargeToTell names before.around.folder options.request_uid) → IsTrue before.around.folder.told → 0 < options.rounds
      → (status ≡ 11) ⊎ ((status ≡ 8) ⊎ ((status ≡ 6) ⊎ ((status ≡ 5) ⊎ HasRisen before.around.folder.faults after.around.folder.faults)))
  -- Where nothing failed, the store isn't damaged, rounds and numbers weren't spent and nothing was too large, a restart was commanded, or memory was
  -- wanting.
  pub complete : (HasRisen before.sink.faults after.sink.faults → ⊥)
      → (HasRisen before.around.disk.faults after.around.disk.faults → ⊥)
      → (HasRisen before.around.folder.faults after.around.folder.faults → ⊥)
      → (HasRisen before.around.clock.faults after.around.clock.faults → ⊥)
      → (HasRisen before.around.entropy.faults after.around.entropy.faults → ⊥)
      → (status ≡ 7 → ⊥) → (status ≡ 9 → ⊥) → (status ≡ 10 → ⊥) → (status ≡ 11 → ⊥)
      → (status ≡ 0) ⊎ (status ≡ 5)
  -- No other status comes.
  pub statuses : IsAgentStatus status
