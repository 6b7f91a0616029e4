-- What follows of a connection that rests.
use Rattle.std.proofs.Common.{◌≡◌, ◌≢◌, ◌⊎◌, [], false, inl, inr}
use Rattle.edge_wire.specs.declared.connection.Connection.{Connection}
use Rattle.edge_wire.specs.Resting.{IsResting}

-- Bytes wait to be sent, or the socket has nothing to be read.
pub resting-looks : (connection : Connection) → IsResting connection → (connection.unsent ≢ []) ⊎ (connection.readable ≡ false)
resting-looks connection (inl waits) = inl waits
resting-looks connection (inr looked) = inr looked.0
