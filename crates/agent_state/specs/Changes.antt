-- What a call puts in place of parts of what is kept, and how that is kept.
use Rattle.std.specs.Prelude.{◌≡◌, true, Some, Result, OnOk, OnErr, IfErr}
use Rattle.edge_devices.specs.Disks.{DiskState, Countdown}
use Rattle.agent_rules.specs.declared.saved.Saved.{Saved}
use Rattle.agent_rules.specs.declared.rules.parts.AgentFail.{AgentFail}
use Rattle.agent_rules.specs.Keeping.{keeping, fits_room}
use Rattle.agent_state.specs.declared.changes.Change.{Change}
use Rattle.agent_state.specs.declared.changes.Change.TheVariants.{Limit, Status, Files, Packages, Whole}
use Rattle.agent_state.specs.View.{AgentView, IsSaving, KeepRefusal}

-- what is kept, with the change
abbrev pub with_change : Change → Saved → Saved
with_change (Limit limit) saved = record saved { limit = limit }
with_change (Status status) saved = record saved { remote = status }
with_change (Files files hash status) saved = record saved { config = files; config_hash = hash; remote = status }
with_change (Packages statuses) saved = record saved { packages = statuses }
with_change (Whole next) saved = next

-- the change that puts back what a change replaces
abbrev pub former_of : Change → Saved → Change
former_of (Limit limit) saved = Limit saved.limit
former_of (Status status) saved = Status saved.remote
former_of (Files files hash status) saved = Files saved.config saved.config_hash saved.remote
former_of (Packages statuses) saved = Packages saved.packages
former_of (Whole next) saved = Whole saved

-- the agent's store saves this part once, and it is then in use; a refusal leaves what is in use
pub record KeepsPart (old new : DiskState) (a b : Countdown) (before after : AgentView) (part : Saved) (result : Result (Unit {0}) AgentFail) : Type 0 where
  pub saving : IsSaving old new a b before.store after.store part result
  pub kept : OnOk result (after.half ≡ keeping (Some part) before.half)
  pub left : OnErr result (after.half ≡ before.half)
  pub one_room : before.half.room ≡ before.store.layout.room
  pub room : OnOk result (fits_room before.half.room (Some part) ≡ true)
  pub refused : IfErr result (KeepRefusal before.store part)
