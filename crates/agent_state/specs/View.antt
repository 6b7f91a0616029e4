-- What contracts see of an agent, and what its calls do to the disk that they are lent.
use Rattle.std.specs.Prelude.{◌≡◌, ◌⊎◌, ◌≤◌, ◌+◌, ◌-◌, ◌<◌, ◌^◌, ℕ, true, false, IsTrue, List, [], length, Option, None, Some, Result, Err, OnOk, OnErr, IfSome, IsSome, IsErrOf}
use Rattle.std.specs.Option.{option_map, option_map_or}
use Rattle.edge_devices.specs.Faults.{HasRisen}
use Rattle.edge_devices.specs.Disks.{DiskState, DeviceCall, Countdown, LeftSince, disk_bytes}
use Rattle.edge_devices.specs.DiskCalls.{MadeAll, EndsAmid}
use Rattle.agent_store.specs.declared.slots.Layout.{Layout}
use Rattle.agent_store.specs.Plans.{planned}
use Rattle.agent_store.specs.Slots.{StandsFor, IsFormerOrNext}
use Rattle.agent_store.specs.Store.{StoreState, Fits, entry_fits}
use Rattle.agent_store.specs.Stops.{CanSave}
use Rattle.agent_store.specs.Codecs.{IsRight}
use Rattle.agent_rules.specs.declared.saved.Saved.{Saved}
use Rattle.agent_rules.specs.Codec.{codec}
use Rattle.agent_rules.specs.Payloads.{canonical_saved, FitsTypes}
use Rattle.agent_rules.specs.Right.{is_right}
use Rattle.agent_rules.specs.declared.rules.parts.AgentFail.{AgentFail}
use Rattle.agent_rules.specs.declared.rules.parts.AgentFail.TheVariants.{StoreFault, NumbersSpent, WrongUid, TooLarge, NoMemory}
use Rattle.agent_rules.specs.Half.{AgentHalf, kept_part}
use Rattle.agent_rules.specs.Keeping.{Call, kept, kept_by, fits_room}

-- an agent: its half of the world, and its store; of the half nothing is said once the store is broken
pub record AgentView : Type 0 where
  pub half : AgentHalf
  pub store : StoreState

-- the image stands for this part, or for none
abbrev pub HasPart : Layout → Option Saved → (ℕ → ℕ) → Type 0
HasPart layout part image = StandsFor codec layout image (option_map canonical_saved part)

-- the store fits the disk, and what a read gives stands for what is kept
pub record FitsDisk (disk : DiskState) (store : StoreState) (part : Option Saved) : Type 0 where
  pub store_fits : Fits codec disk store
  pub stands : IsTrue disk.told → HasPart store.layout part (disk_bytes disk)

-- the device calls of a call that keeps this: those of one save, or none
abbrev pub save_plan : StoreState → Option Saved → List DeviceCall
save_plan store part = option_map_or (λ s. planned codec store (canonical_saved s)) part []

-- the part may be kept, and its canonical bytes mean it alone
pub record MeansItself (part : Saved) : Type 0 where
  pub right : IsTrue (is_right part)
  pub typed : FitsTypes part
  pub bytes : IsRight codec (canonical_saved part)
  pub short : length (canonical_saved part) < 2 ^ 62

-- the store can save this part, unless its disk fails
pub record IsSavable (store : StoreState) (part : Saved) : Type 0 where
  pub itself : MeansItself part
  pub can : CanSave codec store (canonical_saved part)

-- a store saves this part, once
pub record IsSaving (old new : DiskState) (a b : Countdown) (before after : StoreState) (part : Saved) (result : Result (Unit {0}) AgentFail) : Type 0 where
  pub fits : (result ≡ Err StoreFault → ⊥) → Fits codec new after
  pub stands : OnOk result (IsTrue old.told → HasPart before.layout (Some part) (disk_bytes new))
  pub moments : IsTrue old.told → LeftSince old new (IsFormerOrNext codec before.layout (disk_bytes old) (canonical_saved part))
  pub made : OnOk result (IsTrue old.told → MadeAll (planned codec before (canonical_saved part)) old new a b)
  pub made_part : IsErrOf result StoreFault → IsTrue old.told → EndsAmid (planned codec before (canonical_saved part)) old new a b
  pub once : OnOk result (after.generation ≤ before.generation + 1)
  pub layout : after.layout ≡ before.layout
  pub told : new.told ≡ old.told
  pub counts : old.faults ≤ new.faults
  pub fault : IsErrOf result StoreFault → HasRisen old.faults new.faults
  pub broken : IsErrOf result StoreFault → after.broken ≡ true
  pub unchanged : OnErr result ((result ≡ Err StoreFault → ⊥) → after ≡ before)
  pub untouched : OnErr result ((result ≡ Err StoreFault → ⊥) → new ≡ old)
  pub uncounted : OnErr result ((result ≡ Err StoreFault → ⊥) → b ≡ a)
  pub itself : OnOk result (MeansItself part)
  pub savable : IsErrOf result StoreFault → IsSavable before part

-- the image stands for what was kept before the call, or for what the call keeps
abbrev pub StandsBeforeOrAfter : AgentView → Call → (ℕ → ℕ) → Type 0
StandsBeforeOrAfter a call image =
    HasPart a.store.layout (kept_part a.half) image ⊎ HasPart a.store.layout (kept_part (kept a.half call)) image

-- a call that may keep something makes one save at most
pub record IsOneSave {T : Type 0} (old new : DiskState) (a b : Countdown) (before after : AgentView) (call : Call) (result : Result T AgentFail) : Type 0 where
  -- unless the disk failed it fits the agent as before
  pub fits : (result ≡ Err StoreFault → ⊥) → FitsDisk new after.store (kept_part after.half)
  -- whenever a crash comes it leaves what was kept before, or what the call keeps
  pub crash : IsTrue old.told → LeftSince old new (StandsBeforeOrAfter before call)
  -- its device calls are those of the one save, or after a fault some first ones
  pub made : OnOk result (IsTrue old.told → MadeAll (save_plan before.store (kept_by before.half call)) old new a b)
  pub made_part : IsErrOf result StoreFault → IsTrue old.told → EndsAmid (save_plan before.store (kept_by before.half call)) old new a b
  -- the store's generation rose by one at most, and a call that keeps nothing leaves the store as it was
  pub once : OnOk result (after.store.generation ≤ before.store.generation + 1)
  pub beside : OnOk result (kept_by before.half call ≡ None → after.store ≡ before.store)
  pub layout : after.store.layout ≡ before.store.layout
  -- what may be kept is what the store has room for
  pub room : before.half.room ≡ before.store.layout.room
  pub told : new.told ≡ old.told
  -- the disk failed, so that its count has risen
  pub counts : old.faults ≤ new.faults
  pub fault : IsErrOf result StoreFault → HasRisen old.faults new.faults
  pub broken : IsErrOf result StoreFault → after.store.broken ≡ true
  -- unless the disk failed, a refused call leaves the agent and the disk as they were
  pub unchanged : OnErr result ((result ≡ Err StoreFault → ⊥) → after ≡ before)
  pub untouched : OnErr result ((result ≡ Err StoreFault → ⊥) → new ≡ old)
  pub uncounted : OnErr result ((result ≡ Err StoreFault → ⊥) → b ≡ a)
  -- what the call keeps means itself, and could be saved where the disk failed in the save
  pub itself : OnOk result (IfSome (kept_by before.half call) MeansItself)
  pub savable : IsErrOf result StoreFault → IfSome (kept_by before.half call) (IsSavable before.store)

-- why a part isn't kept: there is no room for it; or it has room, and its entry doesn't fit in the log and no generation is left, or the disk fails
abbrev pub KeepRefusal : StoreState → Saved → AgentFail → Type 0
KeepRefusal store part TooLarge = fits_room store.layout.room (Some part) ≡ false
KeepRefusal store part NumbersSpent =
    (fits_room store.layout.room (Some part) ≡ true) × (store.generation ≡ 2 ^ 64 - 1) × (entry_fits codec store (canonical_saved part) ≡ false)
KeepRefusal store part StoreFault = fits_room store.layout.room (Some part) ≡ true
KeepRefusal store part NoMemory = ⊥
KeepRefusal store part WrongUid = ⊥

-- why a call keeps nothing, though it has something to keep; or memory ran out
abbrev pub CallRefusal : AgentView → Call → AgentFail → Type 0
CallRefusal a call WrongUid = ⊥
CallRefusal a call NoMemory = Unit {0}
CallRefusal a call TooLarge = IfSome (kept_by a.half call) (λ part. KeepRefusal a.store part TooLarge) × IsSome (kept_by a.half call)
CallRefusal a call NumbersSpent = IfSome (kept_by a.half call) (λ part. KeepRefusal a.store part NumbersSpent) × IsSome (kept_by a.half call)
CallRefusal a call StoreFault = IfSome (kept_by a.half call) (λ part. KeepRefusal a.store part StoreFault) × IsSome (kept_by a.half call)
