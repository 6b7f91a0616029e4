-- How a save ends of a part that has room.
use Rattle.std.specs.Prelude.{◌≡◌, ◌↔◌, ℕ, ◌-◌, ◌<◌, ◌≤◌, ◌^◌, true, false, List, length, Some, Result, Err, OnOk, IsErrOf, IsTrue}
use Rattle.edge_devices.specs.Faults.{HasRisen}
use Rattle.edge_devices.specs.Disks.{DiskState, Countdown, disk_bytes, LeftSince}
use Rattle.edge_devices.specs.DiskCalls.{MadeAll, EndsAmid}
use Rattle.agent_store.specs.Codecs.{Codec, IsRight}
use Rattle.agent_store.specs.declared.fail.StoreFail.{StoreFail}
use Rattle.agent_store.specs.declared.fail.StoreFail.TheVariants.{DiskFault, Damaged, TooBig, NoMemory, Spent}
use Rattle.agent_store.specs.Plans.{planned}
use Rattle.agent_store.specs.Runs.{LeavesOnly}
use Rattle.agent_store.specs.Slots.{IsFormerOrNext, StandsFor}
use Rattle.agent_store.specs.Stops.{CanSave}
use Rattle.agent_store.specs.Store.{StoreState, Fits, entry_fits, generation_after}

-- how a save of this part ends
pub record Saves (codec : Codec) (store after : StoreState) (old new : DiskState) (a b : Countdown) (next : List ℕ) (result : Result Unit StoreFail) : Type 0 where
  pub few : length next < 2 ^ 62
  pub right : IsRight codec next
  pub saved : OnOk result (IsTrue old.told → StandsFor codec store.layout (disk_bytes new) (Some next))
  pub left : OnOk result (IsTrue old.told → LeavesOnly codec store.layout new (Some next))
  pub generation : OnOk result (after.generation ≡ generation_after codec store next)
  pub fits : (result ≡ Err DiskFault → ⊥) → Fits codec new after
  pub layout : after.layout ≡ store.layout
  pub told : new.told ≡ old.told
  pub any_moment : IsTrue old.told → LeftSince old new (IsFormerOrNext codec store.layout (disk_bytes old) next)
  pub made : OnOk result (IsTrue old.told → MadeAll (planned codec store next) old new a b)
  pub made_part : IsErrOf result DiskFault → IsTrue old.told → EndsAmid (planned codec store next) old new a b
  pub can_save : IsErrOf result DiskFault → CanSave codec store next
  pub fault : IsErrOf result DiskFault → HasRisen old.faults new.faults × (after.broken ≡ true)
  pub counts : old.faults ≤ new.faults
  pub fitting : IsErrOf result TooBig → ⊥
  pub spent : IsErrOf result Spent ↔ ((length next ≤ store.layout.room) × (store.generation ≡ 2 ^ 64 - 1) × (entry_fits codec store next ≡ false))
  pub no_memory : IsErrOf result NoMemory → ⊥
  pub no_damage : (slot : ℕ) → IsErrOf result (Damaged slot) → ⊥
