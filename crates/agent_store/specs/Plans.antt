-- The device calls of a load and of a save, in their order.
use Rattle.std.specs.Prelude.{ℕ, ◌+◌, Bool, List, [], ◌∷◌, ◌++◌, if◌then◌else◌}
use Rattle.edge_devices.specs.Disks.{DeviceCall, Writes, Syncs}
use Rattle.agent_store.specs.declared.slots.Layout.{Layout}
use Rattle.agent_store.specs.declared.slots.Side.{Side}
use Rattle.agent_store.specs.Codecs.{Codec}
use Rattle.agent_store.specs.Log.{entry_bytes}
use Rattle.agent_store.specs.Slots.{slot_start, log_start, body_bytes}
use Rattle.agent_store.specs.Store.{StoreState, entry_fits}

-- a load's writing calls: it begins with a sync
abbrev pub load_plan : List DeviceCall
load_plan = Syncs ∷ []

-- bytes, and a sync
abbrev pub put_plan : ℕ → List ℕ → List DeviceCall
put_plan at bytes = Writes at bytes ∷ Syncs ∷ []

-- An open gate is closed: 0, and a sync.
abbrev pub close_plan : ℕ → Bool → List DeviceCall
close_plan at is_open = if is_open then put_plan at (0 ∷ []) else []

-- An entry: its bytes behind the gate with a closed gate for the next, a sync, its gate 1, a sync.
abbrev pub entry_plan : ℕ → List ℕ → List DeviceCall
entry_plan tail entry = put_plan (tail + 1) entry ++ put_plan tail (1 ∷ [])

-- A slot that begins here, with its log there: its gate is closed where it is open; the bytes behind the gate, the log's first gate 0, a sync;
-- its gate 1, a sync.
abbrev pub slot_plan_at : ℕ → ℕ → Bool → List ℕ → List DeviceCall
slot_plan_at at log_at is_open body =
    close_plan at is_open ++ ((Writes (at + 1) body ∷ Writes log_at (0 ∷ []) ∷ Syncs ∷ []) ++ put_plan at (1 ∷ []))

abbrev pub slot_plan : Layout → Side → Bool → List ℕ → List DeviceCall
slot_plan layout side is_open body = slot_plan_at (slot_start layout side) (log_start layout side) is_open body

-- the device calls of a save: an entry where it fits, and a checkpoint of the next generation into the target slot elsewhere
abbrev pub planned : Codec → StoreState → List ℕ → List DeviceCall
planned codec store next =
    if entry_fits codec store next then entry_plan store.tail (entry_bytes (codec.change store.part next))
    else slot_plan store.layout store.target store.target_open (body_bytes (store.generation + 1) next)
