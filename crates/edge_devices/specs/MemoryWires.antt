-- What contracts see of the wire in memory.
use Rattle.std.specs.Prelude.{◌≡◌, ◌⊎◌, List, [], ◌∷◌, Option, None, Some}
use Rattle.edge_devices.specs.declared.memory_wire.MemoryWire.{MemoryWire}
use Rattle.edge_devices.specs.declared.wires.WireCall.{WireCall}
use Rattle.edge_devices.specs.declared.wires.Given.{Given}
use Rattle.edge_devices.specs.Schedules.{ScheduleState, IsListed}

-- its calls with their results
abbrev pub wire_calls : MemoryWire → List WireCall
wire_calls wire = wire.log

-- the events to come
abbrev pub events_left : MemoryWire → List Given
events_left wire = wire.events

-- which of its calls fail, and how many did
abbrev pub wire_schedule : MemoryWire → ScheduleState
wire_schedule wire = wire.schedule

-- no event is given by the next call
abbrev pub HasNoEvent : MemoryWire → Type 0
HasNoEvent wire = IsListed wire.schedule ⊎ (wire.events ≡ [])

-- the first of the events
abbrev pub first_event : List Given → Option Given
first_event [] = None
first_event (event ∷ events) = Some event
