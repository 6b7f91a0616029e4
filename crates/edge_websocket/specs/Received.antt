-- What a message of the protocol is to a connection.
use Rattle.std.specs.Prelude.{◌≡◌, Bool, if◌then◌else◌, Result, Ok, Err}
use Rattle.std.specs.IoError.{error_kind}
use Rattle.std.specs.declared.io.ErrorKind.{ErrorKind}
use Rattle.std.specs.declared.io.ErrorKind.TheVariants as failed
use Rattle.tungstenite.specs.Socket.{Reads, Socket}
use Rattle.tungstenite.specs.declared.error.Error.{Error}
use Rattle.tungstenite.specs.declared.error.Error.TheVariants as cause
use Rattle.tungstenite.specs.declared.message.Message.{Message}
use Rattle.tungstenite.specs.declared.message.Message.TheVariants as Kind
use Rattle.edge_websocket.specs.Pipes.{PipeState, is_drained, waiting_of}
use Rattle.edge_websocket.specs.declared.ws_socket.Received.{Received}
use Rattle.edge_websocket.specs.declared.ws_socket.Received.TheVariants as given

-- A binary message is given and a close ends the connection; a text, a ping and a pong are dropped.
abbrev pub received_of : Message → Received
received_of (Kind.Binary payload) = given.Message payload
received_of (Kind.Close frame) = given.Ended
received_of _ = given.Other

-- A read that would block gives nothing, where nothing of what came can be read; there may be more otherwise.
abbrev pub of_io : ErrorKind → Bool → Received
of_io failed.WouldBlock drained = if drained then given.Nothing else given.Other
of_io failed.OutOfMemory drained = given.NoMemory
of_io _ drained = given.Ended

-- what a read that failed is
abbrev pub caused_by : Error → Bool → Received
caused_by (cause.Io error) drained = of_io (error_kind error) drained
caused_by cause.OutOfMemory drained = given.NoMemory
caused_by _ drained = given.Ended

-- what a read is, behind which the stream is drained, or not
abbrev pub received_by : Result Message Error → Bool → Received
received_by (Ok message) drained = received_of message
received_by (Err error) drained = caused_by error drained

-- One read of the protocol from here took this from the bytes that wait, and this is what it gave.
abbrev pub Receives : Socket PipeState → Socket PipeState → Received → Type 0
Receives old new received =
    (read : Result Message Error) × Reads waiting_of old new read × (received ≡ received_by read (is_drained new.stream))
