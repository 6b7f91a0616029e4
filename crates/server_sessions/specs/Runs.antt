-- Runs over events.
use Rattle.std.specs.Prelude.{◌≡◌, ℕ, ◌≤◌, ◌⊎◌, List, [], ◌∷◌, ◌++◌, length, Bool, false, Option, None, Some}
use Rattle.std.specs.List.{filter_map}
use Rattle.edge_devices.specs.declared.wires.WireCall.{WireCall}
use Rattle.edge_devices.specs.declared.wires.WireCall.TheVariants.{Closed, Gave, Listened, LostOn, Sent}
use Rattle.edge_devices.specs.declared.wires.Given.{Given}
use Rattle.edge_devices.specs.declared.wires.WireEvent.{WireEvent}
use Rattle.edge_devices.specs.Wires.{Grows}
use Rattle.server_sessions.specs.Reports.{Host, Desk}
use Rattle.server_lines.specs.Sights.{Seen, nothing_seen}
use Rattle.server_sessions.specs.Session.{Streams, Moment, Standing, Does, ServerSession, moment_of, seen_at, state_of}
use Rattle.server_sessions.specs.Wiring.{WireView, IsDone, IsFailed}

abbrev pub event_in : WireCall → Option Given
event_in (Listened kind address) = None
event_in (Gave at event) = Some (record { at = at; event = event })
event_in (Sent conn bytes) = None
event_in (LostOn conn) = None
event_in (Closed conn) = None

-- The calls that are told grow by some that gave these events and no others, and no count falls.
pub record Gives (old new : WireView) (events : List Given) : Type 0 where
  pub more : List WireCall
  pub told : Grows old.calls new.calls more
  pub gave : filter_map event_in more ≡ events
  pub count : old.faults ≤ new.faults

-- where a run begins: no connection is known
abbrev pub beginning : WireView → Desk → Standing
beginning wire desk = record { streams = []; wire = wire; desk = desk }

-- So many events were given since nothing was known, what is due was done for each, and the run ended at the last one exactly
-- where that was `stop`.
pub record ServesEvents (host : Host) (n : ℕ) (old new : WireView) (desk desk' : Desk) (stop : Bool) : Type 0 where
  pub events : List Given
  pub streams : Streams
  pub seen : Seen
  pub number : length events ≡ n
  pub session : ServerSession host events (state_of nothing_seen (beginning old desk)) (state_of seen (record { streams = streams; wire = new; desk = desk' })) stop
  pub given : Gives old new events

-- The wire gave no further event after so many of them.
pub record FailsAfter (host : Host) (n : ℕ) (old new : WireView) (desk desk' : Desk) : Type 0 where
  pub mid : WireView
  pub served : ServesEvents host n old mid desk desk' false
  pub failed : IsFailed mid new

-- No event was given, of which nothing is told.
pub record IsUngiven (old new : WireView) : Type 0 where
  pub untold : new.calls ≡ old.calls
  pub count : old.faults ≤ new.faults

-- Memory was wanting for the event: nothing was done for it, or all that is due.
abbrev pub HalfDoes : Host → Seen → WireEvent → Standing → WireView → Desk → Type 0
HalfDoes host seen e s wire desk =
    ((wire ≡ s.wire) × (desk ≡ s.desk))
    ⊎ ((end : Moment) × (stop : Bool) × Does host seen e (moment_of s) end stop × (wire ≡ end.scene.wire) × (desk ≡ end.scene.sheet.desk))

-- Memory was wanting where the session stood: the wire gave no further event, or it was wanting for the one that it gave.
abbrev pub IsWanting : Host → Seen → Standing → WireView → Desk → Type 0
IsWanting host seen s wire desk =
    (IsUngiven s.wire wire × (desk ≡ s.desk))
    ⊎ ((e : Given) × (given : WireView) × IsDone (Gave e.at e.event) s.wire given × HalfDoes host (seen_at e.at seen) e.event (record s { wire = given }) wire desk)

-- Memory was wanting after so many events.
pub record WantsAfter (host : Host) (n : ℕ) (old new : WireView) (desk desk' : Desk) : Type 0 where
  pub mid : WireView
  pub kept : Desk
  pub served : ServesEvents host n old mid desk kept false
  pub wanting : IsWanting host served.seen (record { streams = served.streams; wire = mid; desk = kept }) new desk'

-- The last call that is told is a send that was lost.
abbrev pub IsLostLast : Option (List WireCall) → Type 0
IsLostLast calls = (before : List WireCall) × (conn : ℕ) × (calls ≡ Some (before ++ LostOn conn ∷ []))
