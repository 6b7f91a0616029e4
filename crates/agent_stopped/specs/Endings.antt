-- How the saves of an agent end, of whose device calls one may be stopped.
use Rattle.std.specs.Prelude.{ℕ, suc, Bool, ◌&&◌, nat_le, if◌then◌else◌, List, [], ◌∷◌, length}
use Rattle.edge_devices.specs.Disks.{DeviceCall}
use Rattle.edge_devices.specs.DiskStops.{stopped_image, counts_on}
use Rattle.edge_devices.specs.declared.disk_calls.Mode.{Mode}
use Rattle.agent_store.specs.declared.slots.Layout.{Layout}
use Rattle.agent_store.specs.Loads.{save_calls, image_after}
use Rattle.agent_store.specs.Plans.{load_plan}
use Rattle.agent_store.specs.Stops.{leaves_next}
use Rattle.agent_rules.specs.declared.saved.Saved.{Saved}
use Rattle.agent_rules.specs.Codec.{codec}
use Rattle.agent_rules.specs.Payloads.{canonical_saved}
use Rattle.agent_rules.specs.Half.{AgentHalf}
use Rattle.agent_rules.specs.Events.{AgentEvent, Changes, Reports, Hears, GivesUp, Restarts, Crashes, saves_in}

-- The device calls were all made, and these are the disk's bytes. Or one was stopped and a crash left these bytes, and so many of the saves count.
pub data Ending : Type 0 where
  Passed : (image : ℕ → ℕ) → Ending
  Stopped : (saves : ℕ) (image : ℕ → ℕ) → Ending

-- a save that was made before counts too
abbrev pub after_a_save : Ending → Ending
after_a_save (Passed image) = Passed image
after_a_save (Stopped saves image) = Stopped (suc saves) image

-- the call of this number, counted from 1, is one of the plan; 0 is none
abbrev pub stops_in : ℕ → List DeviceCall → Bool
stops_in stop plan = nat_le 1 stop && nat_le stop (length plan)

-- the device calls of a save of this part, on a disk of these bytes
abbrev pub calls_of : Layout → (ℕ → ℕ) → Saved → List DeviceCall
calls_of layout image part = save_calls codec layout image (canonical_saved part)

-- a save that was stopped counts where the crash leaves its part
abbrev pub stopped_save : Mode → (ℕ → ℕ) → List DeviceCall → ℕ → Ending
stopped_save mode image plan stop = Stopped (if leaves_next mode plan stop then 1 else 0) (stopped_image mode image plan stop)

-- saves of these parts, one after another: the stop is in the first, or it counts on in those after it
unfoldable pub saves_end : Layout → Mode → ℕ → (ℕ → ℕ) → List Saved → Ending
saves_end layout mode stop image [] = Passed image
saves_end layout mode stop image (part ∷ parts) =
    if stops_in stop (calls_of layout image part) then stopped_save mode image (calls_of layout image part) stop
    else after_a_save (saves_end layout mode (counts_on stop (calls_of layout image part)) (image_after image (calls_of layout image part)) parts)

-- a start, which loads the store
abbrev pub start_ends : Mode → ℕ → (ℕ → ℕ) → Ending
start_ends mode stop image = if stops_in stop load_plan then Stopped 0 (stopped_image mode image load_plan stop) else Passed image

-- how an event ends of an agent with this half, on a disk of these bytes, whose device call of this number is stopped
abbrev pub event_ends : Layout → Mode → ℕ → (ℕ → ℕ) → AgentHalf → AgentEvent → Ending
event_ends layout mode stop image a (Changes now) = Passed image
event_ends layout mode stop image a Reports = saves_end layout mode stop image (saves_in a Reports)
event_ends layout mode stop image a (Hears reply reactions) = saves_end layout mode stop image (saves_in a (Hears reply reactions))
event_ends layout mode stop image a GivesUp = Passed image
event_ends layout mode stop image a (Restarts local asks_uid) = start_ends mode stop image
event_ends layout mode stop image a (Crashes during saves) = Passed image

-- the event, or the crash in it
abbrev pub event_with : AgentEvent → Ending → AgentEvent
event_with event (Passed image) = event
event_with event (Stopped saves image) = Crashes event saves

-- the bytes that are left
abbrev pub image_in : Ending → ℕ → ℕ
image_in (Passed image) = image
image_in (Stopped saves image) = image
