-- What a call of an agent does, of whose device calls one may be stopped.
use Rattle.std.specs.Prelude.{◌≡◌, ◌≤◌, ◌+◌, [], ◌∷◌, Result, Err, OnOk, OnErr, IsErrOf}
use Rattle.edge_devices.specs.MemoryDisks.{memory_disk, disk_countdown}
use Rattle.edge_devices.specs.declared.disk_calls.Mode.{Mode}
use Rattle.edge_devices.specs.declared.memory_disk.MemDisk.{MemDisk}
use Rattle.agent_store.specs.Loads.{store_of}
use Rattle.agent_rules.specs.Codec.{codec}
use Rattle.agent_rules.specs.declared.rules.parts.AgentFail.{AgentFail}
use Rattle.agent_rules.specs.declared.rules.parts.AgentFail.TheVariants.{StoreFault, NoMemory}
use Rattle.agent_rules.specs.Keeping.{Call, Change, Report, TakeReply, GiveUp, CommitTry, AbandonTry, ConfigDone, PackagesDone, Say, BeginTry}
use Rattle.agent_state.specs.View.{AgentView}
use Rattle.agent_stopped.specs.declared.opening.Opening.{Opening}
use Rattle.agent_stopped.specs.Stages.{stage_of, Leads, left_on}
use Rattle.agent_stopped.specs.Starts.{IsAtRest, IsStopped}

-- A call that may keep something was made, was stopped, or was refused. Of what want of memory leaves nothing is said.
pub record IsPlayed {T : Type 0} (before after : AgentView) (old new : MemDisk) (call : Call) (result : Result T AgentFail) : Type 0 where
  pub leads : OnOk result ((opening : Opening) → IsAtRest opening before old → Leads opening.layout (stage_of before old) (call ∷ []) (stage_of after new))
  pub at_rest : OnOk result ((opening : Opening) → IsAtRest opening before old → IsAtRest opening after new)
  pub stopped : IsErrOf result StoreFault → (opening : Opening) → IsAtRest opening before old → IsStopped opening (stage_of before old) (call ∷ []) new
  -- any other refusal leaves the agent and its disk as they were
  pub unchanged : OnErr result ((result ≡ Err StoreFault → ⊥) → (result ≡ Err NoMemory → ⊥) → after ≡ before)
  pub same_disk : OnErr result ((result ≡ Err StoreFault → ⊥) → (result ≡ Err NoMemory → ⊥) → memory_disk new ≡ memory_disk old)
  pub same_count : OnErr result ((result ≡ Err StoreFault → ⊥) → (result ≡ Err NoMemory → ⊥) → disk_countdown new ≡ disk_countdown old)
  -- the store's generation rises by one at most
  pub once : OnOk result (after.store.generation ≤ before.store.generation + 1)
  pub once_stopped : IsErrOf result StoreFault → (opening : Opening) → IsAtRest opening before old → (mode : Mode)
      → (store_of codec opening.layout (left_on new mode)).generation ≤ before.store.generation + 1

-- a call that keeps nothing
abbrev pub KeepsNothing : Call → Type 0
KeepsNothing (Change now) = ⊥
KeepsNothing Report = ⊥
KeepsNothing (TakeReply reply) = ⊥
KeepsNothing GiveUp = Unit {0}
KeepsNothing CommitTry = ⊥
KeepsNothing AbandonTry = Unit {0}
KeepsNothing (ConfigDone applied status) = ⊥
KeepsNothing (PackagesDone statuses) = ⊥
KeepsNothing (Say message) = Unit {0}
KeepsNothing (BeginTry next) = Unit {0}
