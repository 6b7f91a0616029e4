-- When a connection has nothing to do until its socket changes.
use Rattle.std.specs.Prelude.{◌≡◌, ◌≢◌, ◌⊎◌, [], Bool, true, false}
use Rattle.edge_websocket.specs.Pipes.{is_drained}
use Rattle.edge_wire.specs.declared.connection.Channel.{Channel}
use Rattle.edge_wire.specs.declared.connection.Channel.TheVariants.{Framed}
use Rattle.edge_wire.specs.declared.connection.Connection.{Connection}

-- The protocol holds nothing of the peer that could be read; only that of WebSocket holds what came.
abbrev pub holds_nothing : Channel → Bool
holds_nothing (Framed socket) = is_drained socket.stream
holds_nothing _ = true

-- Bytes wait until the socket takes them, or all that came was looked at: the socket has nothing more to be read, and
-- the protocol neither.
abbrev pub IsResting : Connection → Type 0
IsResting connection =
    (connection.unsent ≢ []) ⊎ ((connection.readable ≡ false) × (holds_nothing connection.channel ≡ true))
