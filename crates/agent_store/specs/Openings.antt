-- How the reading of a disk ends, once its rows are reserved.
use Rattle.std.specs.Prelude.{◌≡◌, ℕ, ◌≤◌, Bool, true, false, List, Result, IfOk, OnOk, IsErrOf, IsTrue}
use Rattle.edge_devices.specs.Faults.{HasRisen}
use Rattle.edge_devices.specs.Disks.{DiskState, Countdown, medium, disk_bytes, IsSettled, MayLeave, LeftSince}
use Rattle.edge_devices.specs.DiskCalls.{MadeAll, EndsAmidOrAfter}
use Rattle.agent_store.specs.Codecs.{Codec}
use Rattle.agent_store.specs.declared.fail.StoreFail.{StoreFail}
use Rattle.agent_store.specs.declared.fail.StoreFail.TheVariants as fails
use Rattle.agent_store.specs.declared.header.Header.{Header}
use Rattle.agent_store.specs.declared.opened.Opened.{Opened}
use Rattle.agent_store.specs.declared.opened.Opened.TheVariants.{Fresh}
use Rattle.agent_store.specs.declared.slots.Layout.{Layout}
use Rattle.agent_store.specs.declared.slots.Side.{Side}
use Rattle.agent_store.specs.declared.slots.Side.TheVariants.{First, Second}
use Rattle.agent_store.specs.Found.{AllKept, part_of, reading_of}
use Rattle.agent_store.specs.Headers.{TellsHeader}
use Rattle.agent_store.specs.Plans.{load_plan}
use Rattle.agent_store.specs.Runs.{LeavesOnly}
use Rattle.agent_store.specs.Slots.{other, slot_start, reading, Damaged}
use Rattle.agent_store.specs.Store.{StoreState, Fits}

-- the store of a part that was read from a slot
abbrev pub holding : Layout → Side → Bool → ℕ → ℕ → List ℕ → StoreState
holding layout side target_open generation tail part = record {
  layout = layout;
  target = other side;
  target_open = target_open;
  kept = true;
  generation = generation;
  tail = tail;
  part = part;
  broken = false;
}

-- both headers were read behind a sync
pub record ReadsHeaders (layout : Layout) (first second : Header) (old new : DiskState) (a b : Countdown) : Type 0 where
  pub tells_first : IsTrue old.told → TellsHeader (disk_bytes old) (slot_start layout First) first
  pub tells_second : IsTrue old.told → TellsHeader (disk_bytes old) (slot_start layout Second) second
  pub settled : IsSettled (medium new)
  pub same : disk_bytes new ≡ disk_bytes old
  pub made : IsTrue old.told → MadeAll load_plan old new a b
  pub any_moment : LeftSince old new (MayLeave (medium old))
  pub counts : old.faults ≤ new.faults

-- how the reading ends, with the store that follows it
pub record Opens {T : Type 0} (codec : Codec) (canonical : T → List ℕ) (right typed : T → Type 0) (layout : Layout) (after : StoreState) (old new : DiskState) (a b : Countdown) (result : Result (Opened T) StoreFail) : Type 0 where
  pub opened : IfOk result (λ opened. IsTrue old.told → reading_of canonical opened ≡ reading codec layout (disk_bytes old))
  pub left : IfOk result (λ opened. IsTrue old.told → LeavesOnly codec layout new (part_of canonical opened))
  pub is_right : IfOk result (AllKept right)
  pub is_typed : IfOk result (AllKept typed)
  pub fits : OnOk result (Fits codec new after)
  pub same_layout : OnOk result (after.layout ≡ layout)
  pub fresh : IfOk result (λ opened. opened ≡ Fresh → after.generation ≡ 0)
  pub damaged : (slot : ℕ) → IsErrOf result (fails.Damaged slot) → IsTrue old.told → reading codec layout (disk_bytes old) ≡ Damaged slot
  pub any_moment : LeftSince old new (MayLeave (medium old))
  pub same : disk_bytes new ≡ disk_bytes old
  pub made : OnOk result (IsTrue old.told → MadeAll load_plan old new a b)
  pub made_part : IsErrOf result fails.DiskFault → IsTrue old.told → EndsAmidOrAfter load_plan old new a b
  pub fault : IsErrOf result fails.DiskFault → HasRisen old.faults new.faults
  pub counts : old.faults ≤ new.faults
  pub fitting : IsErrOf result fails.TooBig → ⊥
  pub unspent : IsErrOf result fails.Spent → ⊥
