-- What a step of a connection tells.
use Rattle.std.specs.Prelude.{◌≡◌, ◌⊎◌, ℕ, List, Option, None, Some, ⊤}
use Rattle.edge_devices.specs.declared.wires.Kind.{Kind}
use Rattle.edge_devices.specs.declared.wires.WireEvent.{WireEvent}
use Rattle.edge_devices.specs.declared.wires.WireEvent.TheVariants as event
use Rattle.edge_websocket.specs.declared.ws_socket.Received.{Received}
use Rattle.edge_websocket.specs.declared.ws_socket.Received.TheVariants as given
use Rattle.edge_wire.specs.declared.connection.Step.{Step}
use Rattle.edge_wire.specs.declared.connection.Step.TheVariants.{Again, Closed, Event, Greeted}
use Rattle.edge_wire.specs.declared.stage.Phase.{Phase}
use Rattle.edge_wire.specs.declared.stage.Phase.TheVariants.{Draining, Ending, Greeting, Open}

-- The event is a piece of the connection with this number.
abbrev pub IsPieceOf : ℕ → WireEvent → Type 0
IsPieceOf conn (event.Piece c bytes) = c ≡ conn
IsPieceOf conn _ = ⊥

-- Where the step gives an event it is a piece of the connection with this number.
abbrev pub IsOf : ℕ → Step → Type 0
IsOf conn (Event given) = IsPieceOf conn given
IsOf conn _ = ⊤

-- These bytes are a piece of the connection, for which there was memory, or there was none.
abbrev pub IsPiece : ℕ → List ℕ → Step → Type 0
IsPiece conn bytes step = (step ≡ Event (event.Piece conn bytes)) ⊎ (step ≡ Closed)

-- What a WebSocket connection gave comes to: a message is a piece, and an end or want of memory is the end.
abbrev pub Comes : ℕ → Received → Option Step → Type 0
Comes conn (given.Message bytes) (Some step) = IsPiece conn bytes step
Comes conn (given.Message bytes) None = ⊥
Comes conn given.Other step = step ≡ Some Again
Comes conn given.Nothing step = step ≡ None
Comes conn _ step = step ≡ Some Closed

-- The event tells of the connection with this number.
abbrev pub TellsOf : ℕ → WireEvent → Type 0
TellsOf conn (event.Opened c kind) = c ≡ conn
TellsOf conn (event.Piece c bytes) = c ≡ conn
TellsOf conn (event.Closed c) = c ≡ conn

-- what a step of the connection of this kind tells the caller
abbrev pub told_by : ℕ → Kind → Step → Option WireEvent
told_by conn kind (Event given) = Some given
told_by conn kind Greeted = Some (event.Opened conn kind)
told_by conn kind Closed = Some (event.Closed conn)
told_by conn kind _ = None

-- What a step can come to in a phase. Only an open connection gives events and is over, and only a handshake is done.
abbrev pub IsIn : Phase → Step → Type 0
IsIn Open Greeted = ⊥
IsIn Open _ = ⊤
IsIn Greeting (Event given) = ⊥
IsIn Greeting Closed = ⊥
IsIn Greeting _ = ⊤
IsIn Ending (Event given) = ⊥
IsIn Ending Closed = ⊥
IsIn Ending Greeted = ⊥
IsIn Ending _ = ⊤
IsIn Draining (Event given) = ⊥
IsIn Draining Closed = ⊥
IsIn Draining Greeted = ⊥
IsIn Draining _ = ⊤
