-- How the functions of a round's parts say what they do, and what a crash leaves at any moment of them.
use Rattle.std.specs.Prelude.{◌≡◌, ◌⊎◌, ◌≤◌, ◌+◌, ℕ, ◌++◌, List, [], ◌∷◌, Bool, true, false, IsTrue, length, Option, Some, None, is_some, Result, Ok, Err, IfOk}
use Rattle.std.specs.List.{AllByRecursion}
use Rattle.std.specs.Option.{option_map}
use Rattle.message_values.specs.declared.state.Settings.{Settings}
use Rattle.edge_devices.specs.declared.dialers.DialerCall.TheVariants.{Dial}
use Rattle.edge_devices.specs.declared.dialers.DialFail.{DialFail}
use Rattle.edge_devices.specs.Clocks.{ClockState}
use Rattle.edge_devices.specs.Dialers.{DialerState, Dials}
use Rattle.edge_devices.specs.Disks.{DeviceCall, DiskState, LeftSince}
use Rattle.edge_devices.specs.Endpoints.{endpoint_of}
use Rattle.edge_devices.specs.Faults.{HasRisen}
use Rattle.edge_devices.specs.Folders.{FolderState}
use Rattle.agent_store.specs.declared.slots.Layout.{Layout}
use Rattle.agent_store.specs.Plans.{planned}
use Rattle.agent_store.specs.Store.{StoreState}
use Rattle.agent_rules.specs.declared.saved.Saved.{Saved}
use Rattle.agent_rules.specs.Codec.{codec}
use Rattle.agent_rules.specs.Payloads.{canonical_saved}
use Rattle.agent_rules.specs.declared.rules.parts.AgentFail.{AgentFail}
use Rattle.agent_rules.specs.declared.rules.parts.AgentFail.TheVariants as fails
use Rattle.agent_rules.specs.Half.{kept_part}
use Rattle.agent_state.specs.View.{AgentView, FitsDisk, HasPart, MeansItself}
use Rattle.agent_rounds.specs.declared.ends.AgentEnd.{AgentEnd}
use Rattle.agent_rounds.specs.declared.ends.AgentEnd.TheVariants.{StoreFault, FolderFault, ClockFault, RoundsSpent, NumbersSpent, TooLarge, NoMemory}
use Rattle.agent_rounds.specs.declared.held.Dialled.{Dialled}
use Rattle.agent_rounds.specs.declared.held.Held.{Held}
use Rattle.agent_rounds.specs.declared.held.Settling.TheVariants.{First}
use Rattle.agent_rounds.specs.Identifying.{dialled_headers}
use Rattle.agent_rounds.specs.Parts.{value_of}
use Rattle.agent_rounds.specs.Status.{HeldLink, HeldView}
use Rattle.agent_rounds.specs.Stages.{Stage}

-- what is held, by how the dialer numbers its links
abbrev pub link_view : {L : Type 0} → (L → ℕ) → Dialled L → HeldLink
link_view number dialled = record { number = number dialled.link; uid = dialled.uid; endpoint = dialled.endpoint; headers = dialled.headers }

abbrev pub held_view : {L : Type 0} → (L → ℕ) → Held L → HeldView
held_view number held = record { link = option_map (link_view number) held.link; settling = held.settling; status = held.status; prove = held.prove }

-- the number of the link held
abbrev pub number_held : HeldView → Option ℕ
number_held held = option_map (λ link. link.number) held.link

-- the link that was found or dialled, where there is one
abbrev pub link_given : HeldView → Result Bool AgentEnd → Result (Option ℕ) AgentEnd
link_given held (Ok true) = Ok (number_held held)
link_given held (Ok false) = Ok None
link_given held (Err end) = Err end

-- An agent of this identifier dialled the target, and this link is what came of it, if the dial wasn't refused.
pub record DialsTo {L : Type 0} (number : L → ℕ) (uid : List ℕ) (target : Settings) (old new : DialerState) (link : Option (Dialled L)) : Type 0 where
  pub answer : Result ℕ DialFail
  pub numbered : IfOk answer (λ number. IsTrue new.told → number ≡ length old.calls)
  pub call : Dials old new (λ number. Dial (endpoint_of target.endpoint) (dialled_headers uid target.headers) (is_some number)) answer
  pub given : option_map (link_view number) link ≡ option_map (λ number. record { number = number; uid = uid; endpoint = target.endpoint; headers = target.headers }) (value_of answer)

-- nothing is held, and configurations are proved so
abbrev pub nothing_held : Option ℕ → HeldView
nothing_held prove = record { link = None; settling = First; status = None; prove = prove }

-- the stage with these in the place of its own
abbrev pub with_agent : AgentView → Stage → Stage
with_agent agent s = record s { half = agent.half; store = agent.store }

abbrev pub with_held : HeldView → Stage → Stage
with_held held s = record s { held = held }

abbrev pub with_folder : FolderState → Stage → Stage
with_folder folder s = record s { folder = folder }

abbrev pub with_dialer : DialerState → Stage → Stage
with_dialer dialer s = record s { dialer = dialer }

abbrev pub with_clock : ClockState → Stage → Stage
with_clock clock s = record s { clock = clock }

-- with these kept too
abbrev pub with_saves : List Saved → Stage → Stage
with_saves saves s = record s { keeps = s.keeps ++ saves }

-- the image stands for the first part, if there is one, or for one of those that follow it
abbrev pub HasOneOf : Layout → Option Saved → List Saved → (ℕ → ℕ) → Type 0
HasOneOf layout first [] image = HasPart layout first image
HasOneOf layout first (part ∷ parts) image = HasPart layout first image ⊎ HasOneOf layout (Some part) parts image

-- the last of them
abbrev pub last_part : Option Saved → List Saved → Option Saved
last_part first [] = first
last_part first (part ∷ parts) = last_part (Some part) parts

-- the disk failed
abbrev pub is_store_fault : AgentEnd → Bool
is_store_fault StoreFault = true
is_store_fault FolderFault = false
is_store_fault ClockFault = false
is_store_fault RoundsSpent = false
is_store_fault NumbersSpent = false
is_store_fault TooLarge = false
is_store_fault NoMemory = false

abbrev pub store_failed : {T : Type 0} → Result T AgentEnd → Bool
store_failed (Ok value) = false
store_failed (Err end) = is_store_fault end

-- The device calls of saves of these parts, one after the other: each save makes its own calls once, by what the save before it left of the store.
abbrev pub SavesOnce : StoreState → List Saved → List DeviceCall → StoreState → Type 0
SavesOnce store [] calls after = (calls ≡ []) × (after ≡ store)
SavesOnce store (part ∷ parts) calls after = (next : StoreState) × ((rest : List DeviceCall)
    × ((calls ≡ planned codec store (canonical_saved part) ++ rest) × ((next.generation ≤ store.generation + 1) × SavesOnce next parts rest after)))

-- From one moment of a disk and its agent to another these parts are kept, one after the other; or the disk failed.
pub record KeepsImages (old new : DiskState) (before after : AgentView) (saves : List Saved) (failed : Bool) : Type 0 where
  -- whenever a crash comes it leaves what was kept before, or one of them
  pub crash : IsTrue old.told → LeftSince old new (HasOneOf before.store.layout (kept_part before.half) saves)
  -- unless the disk failed each of them was saved once, and the disk had no other calls
  pub once : failed ≡ false → IsTrue old.told → (calls : List DeviceCall) × ((new.calls ≡ old.calls ++ calls) × SavesOnce before.store saves calls after.store)
  -- and it fits the agent, and the last of them is what is kept
  pub fits : failed ≡ false → FitsDisk new after.store (kept_part after.half)
  pub last : failed ≡ false → kept_part after.half ≡ last_part (kept_part before.half) saves
  pub layout : after.store.layout ≡ before.store.layout
  pub told : new.told ≡ old.told
  -- each of them means itself, so that it is read again as it was
  pub itself : AllByRecursion MeansItself saves
  -- where it failed its count has risen
  pub counts : old.faults ≤ new.faults
  pub fault : failed ≡ true → HasRisen old.faults new.faults
  pub broken : failed ≡ true → after.store.broken ≡ true

-- the agent at a stage
abbrev pub agent_at : Stage → AgentView
agent_at s = record { half = s.half; store = s.store }

-- A part is run that keeps these parts, which join those that were kept before it.
pub record RunsPart {T : Type 0} (P : Stage → Stage → Result T AgentEnd → Type 0) (old new : DiskState) (s t : Stage) (result : Result T AgentEnd) : Type 0 where
  pub saves : List Saved
  pub does : P s (with_saves saves t) result
  pub images : KeepsImages old new (agent_at s) (agent_at t) saves (store_failed result)

-- all that a round is lent, at a moment: the agent, what is held, the disk, the folder, the dialer and the clock
pub record Moment : Type 0 where
  pub agent : AgentView
  pub held : HeldView
  pub disk : DiskState
  pub folder : FolderState
  pub dialer : DialerState
  pub clock : ClockState

-- its stage, where these were kept so far
abbrev pub stage_at : Moment → List Saved → Stage
stage_at m keeps = record { half = m.agent.half; store = m.agent.store; held = m.held; folder = m.folder; dialer = m.dialer; clock = m.clock; keeps = keeps }

-- The relation leads from one moment to the other, whatever was kept before.
abbrev pub Leads : {T : Type 0} → (Stage → Stage → Result T AgentEnd → Type 0) → Moment → Moment → Result T AgentEnd → Type 0
Leads P before after result = (keeps : List Saved) → RunsPart P before.disk after.disk (stage_at before keeps) (stage_at after keeps) result

-- what ends a part that neither settles the area nor waits: a call of the agent, or want of memory
abbrev pub IsCallEnd : AgentEnd → Type 0
IsCallEnd StoreFault = Unit {0}
IsCallEnd NumbersSpent = Unit {0}
IsCallEnd TooLarge = Unit {0}
IsCallEnd NoMemory = Unit {0}
IsCallEnd FolderFault = ⊥
IsCallEnd ClockFault = ⊥
IsCallEnd RoundsSpent = ⊥

-- what ends the settling of the area
abbrev pub IsSettlingEnd : AgentEnd → Type 0
IsSettlingEnd FolderFault = Unit {0}
IsSettlingEnd NoMemory = Unit {0}
IsSettlingEnd StoreFault = ⊥
IsSettlingEnd NumbersSpent = ⊥
IsSettlingEnd TooLarge = ⊥
IsSettlingEnd ClockFault = ⊥
IsSettlingEnd RoundsSpent = ⊥

-- what ends a round before its report is made
abbrev pub IsPreparingEnd : AgentEnd → Type 0
IsPreparingEnd FolderFault = Unit {0}
IsPreparingEnd NoMemory = Unit {0}
IsPreparingEnd StoreFault = Unit {0}
IsPreparingEnd NumbersSpent = Unit {0}
IsPreparingEnd TooLarge = Unit {0}
IsPreparingEnd ClockFault = ⊥
IsPreparingEnd RoundsSpent = ⊥

-- the end of a round for a call of the agent that failed so; a reply to another agent is handed to none
abbrev pub IsEndOf : AgentFail → AgentEnd → Type 0
IsEndOf fails.StoreFault end = end ≡ StoreFault
IsEndOf fails.NumbersSpent end = end ≡ NumbersSpent
IsEndOf fails.TooLarge end = end ≡ TooLarge
IsEndOf fails.NoMemory end = end ≡ NoMemory
IsEndOf fails.WrongUid end = ⊥
