-- What `serve` notes: its addresses once it listens, or the one that failed, and at the end what its status says.
use Rattle.std.specs.Prelude.{◌≡◌, ◌⊎◌, ℕ, List, [], ◌∷◌, ◌++◌, false, Option, None, Some, Result, Ok, Err, codes}
use Rattle.message_values.specs.declared.custom.CustomMessage.{CustomMessage}
use Rattle.edge_devices.specs.declared.wires.WireCall.{WireCall}
use Rattle.edge_devices.specs.declared.wires.WireCall.TheVariants as calls
use Rattle.edge_devices.specs.declared.wires.WireFault.{WireFault}
use Rattle.edge_devices.specs.declared.wires.WireFault.TheVariants as causes
use Rattle.edge_devices.specs.Clocks.{EntropyState}
use Rattle.edge_devices.specs.Streams.{SinkView}
use Rattle.edge_notes.specs.declared.notes.Note.{Note}
use Rattle.edge_notes.specs.declared.notes.Note.TheVariants as notes
use Rattle.edge_notes.specs.Noted.{IsNoted, NotedIf}
use Rattle.command_words.specs.declared.commands.ServeOptions.{ServeOptions}
use Rattle.server_core.specs.declared.replies.Profile.{Profile}
use Rattle.server_core.specs.Table.{Table}
use Rattle.server_sessions.specs.declared.serving.ServeEnd.{ServeEnd}
use Rattle.server_sessions.specs.declared.serving.ServeEnd.TheVariants as end
use Rattle.server_sessions.specs.Journaling.{Journaling, journaled}
use Rattle.server_sessions.specs.Reports.{desk_of}
use Rattle.server_sessions.specs.Sessions.{EndsBy, site_of}
use Rattle.server_sessions.specs.Wiring.{WireView}
use Rattle.server_deliveries.specs.Deliveries.{Delivers, DeliversInPart}
use Rattle.command_serve.specs.declared.status.RolloutStatus.{RolloutStatus}
use Rattle.command_serve.specs.declared.status.RolloutStatus.TheVariants.{Served, TooLarge}
use Rattle.command_serve.specs.declared.status.ServeStatus.{ServeStatus}
use Rattle.command_serve.specs.declared.status.ServeStatus.TheVariants.{NoMemory, Stopped, TurnsSpent, WireFault as WireFailed, WriteFault}
use Rattle.command_serve.specs.Serving.{Dispatch, FailsToListen, Listens, host_with, listenings}
use Rattle.command_serve.specs.Statuses.{rollout_status_of}

-- the line `listening http A websocket B operators C`
abbrev pub listening_line : ServeOptions → List ℕ
listening_line options =
    codes "listening http " ++ (options.http ++ (codes " websocket " ++ (options.ws ++ (codes " operators " ++ (options.operator ++ 10 ∷ [])))))

abbrev pub cause_of : WireFault → List ℕ
cause_of causes.InUse = codes "in use"
cause_of causes.NotHere = codes "not an address of this machine"
cause_of causes.NotPermitted = codes "not permitted"
cause_of causes.Failed = codes "failed"

-- the line `address A: CAUSE`
abbrev pub address_line : List ℕ → WireFault → List ℕ
address_line address fault = codes "address " ++ (address ++ (codes ": " ++ (cause_of fault ++ 10 ∷ [])))

-- the address of a listening
abbrev pub address_in : WireCall → List ℕ
address_in (calls.Listened kind address) = address
address_in (calls.Gave at event) = []
address_in (calls.Sent conn bytes) = []
address_in (calls.LostOn conn) = []
address_in (calls.Closed conn) = []

-- An address failed, and the note says which and why.
pub record NotesAddress (options : ServeOptions) (old new : WireView) (before after : SinkView) : Type 0 where
  pub fails : FailsToListen options old new
  pub fault : WireFault
  pub noted : IsNoted (address_line (address_in fails.failed) fault) before after

-- From there to here events were served by a server whose handlers may answer so, and what was noted meanwhile is the journal of a session of these
-- calls, where one is kept; else nothing.
pub record NotesRun (answers : CustomMessage → Option CustomMessage → Type 0) (options : ServeOptions) (old new : WireView) (before after : SinkView) : Type 0 where
  pub profile : Profile
  pub first : Dispatch
  pub last : Dispatch
  pub table : Table
  pub table' : Table
  pub entropy : EntropyState
  pub entropy' : EntropyState
  pub count : ℕ
  pub result : Result ℕ ServeEnd
  pub journals : EndsBy (Journaling options.journal Delivers) (Journaling options.journal DeliversInPart) (host_with profile answers) options.turns
      (site_of old (desk_of entropy table first.rollouts) (journaled first.delivered 0 before)) (site_of new (desk_of entropy' table' last.rollouts) (journaled last.delivered count after)) result
  pub silent : options.journal ≡ false → after ≡ before

-- The three addresses were listened to and noted, then the journal, where one is kept, and then this note, if it is one.
pub record NotesListening (answers : CustomMessage → Option CustomMessage → Type 0) (options : ServeOptions) (old new : WireView) (note : Option Note) (before after : SinkView) : Type 0 where
  pub wire : WireView
  pub listens : Listens (listenings options) old wire
  pub between : SinkView
  pub listening : IsNoted (listening_line options) before between
  pub later : SinkView
  pub run : NotesRun answers options wire new between later
  pub last : NotedIf note later after

-- what sockets that failed while events were served have noted
abbrev pub sockets_note : Result ℕ ServeEnd → Option Note
sockets_note (Ok n) = None
sockets_note (Err end.TurnsSpent) = None
sockets_note (Err end.WireFault) = Some notes.SocketsFault
sockets_note (Err end.NoMemory) = None

-- what a run of events noted
abbrev pub RunNotes : (CustomMessage → Option CustomMessage → Type 0) → ServeOptions → WireView → WireView → Result ℕ ServeEnd → SinkView → SinkView → Type 0
RunNotes answers options old new result before after =
    NotesListening answers options old new (sockets_note result) before after ⊎ ((result ≡ Err end.WireFault) × NotesAddress options old new before after)

-- what is noted of the status behind the line of the addresses
abbrev pub note_of : ServeStatus → Option Note
note_of Stopped = None
note_of WriteFault = Some notes.OutputUnwritten
note_of NoMemory = Some notes.NoMemory
note_of WireFailed = Some notes.SocketsFault
note_of TurnsSpent = Some notes.TurnsSpent

-- the part of it that is noted where the wire fails, and the part that is noted at the end
abbrev pub wire_note : ServeStatus → Option Note
wire_note Stopped = None
wire_note WriteFault = None
wire_note NoMemory = None
wire_note WireFailed = Some notes.SocketsFault
wire_note TurnsSpent = None

abbrev pub end_note : ServeStatus → Option Note
end_note Stopped = None
end_note WriteFault = Some notes.OutputUnwritten
end_note NoMemory = Some notes.NoMemory
end_note WireFailed = None
end_note TurnsSpent = Some notes.TurnsSpent

-- what serving noted before its end was told
abbrev pub ServingNotes : (CustomMessage → Option CustomMessage → Type 0) → ServeOptions → WireView → WireView → ServeStatus → SinkView → SinkView → Type 0
ServingNotes answers options old new status before after =
    NotesListening answers options old new (wire_note status) before after
    ⊎ (((status ≡ WireFailed) × NotesAddress options old new before after)
    ⊎ ((status ≡ NoMemory) × (after ≡ before)))

-- the same of a run with a rollout
abbrev pub RollingNotes : (CustomMessage → Option CustomMessage → Type 0) → ServeOptions → WireView → WireView → RolloutStatus → SinkView → SinkView → Type 0
RollingNotes answers options old new (Served status) before after = ServingNotes answers options old new status before after
RollingNotes answers options old new TooLarge before after = after ≡ before

abbrev pub rollout_note : RolloutStatus → Option Note
rollout_note (Served status) = end_note status
rollout_note TooLarge = Some notes.RolloutTooLarge

-- What `serve` notes, where it ended so: its addresses, and then what its status says; or the address that failed; or that memory was wanting, or the offer is
-- too large, before an address was listened to.
abbrev pub NotesOf : (CustomMessage → Option CustomMessage → Type 0) → ServeOptions → WireView → WireView → RolloutStatus → SinkView → SinkView → Type 0
NotesOf answers options old new (Served status) before after =
    NotesListening answers options old new (note_of status) before after
    ⊎ (((status ≡ WireFailed) × NotesAddress options old new before after)
    ⊎ ((status ≡ NoMemory) × NotedIf (Some notes.NoMemory) before after))
NotesOf answers options old new TooLarge before after = NotedIf (Some notes.RolloutTooLarge) before after

-- the same by the exit status
abbrev pub ServeNotes : (CustomMessage → Option CustomMessage → Type 0) → ServeOptions → WireView → WireView → ℕ → SinkView → SinkView → Type 0
ServeNotes answers options old new status before after = (told : RolloutStatus) × (status ≡ rollout_status_of told) × NotesOf answers options old new told before after
