-- What is due to a connection because of the time.
use Rattle.std.specs.Prelude.{◌≡◌, ℕ, ◌-◌, false, if◌then◌else◌}
use Rattle.edge_wire.specs.Silence.{due_after}
use Rattle.edge_wire.specs.Stages.{is_known, is_late}
use Rattle.edge_wire.specs.declared.connection.Connection.{Connection}
use Rattle.edge_wire.specs.declared.silence.Due.{Due}
use Rattle.edge_wire.specs.declared.silence.Due.TheVariants.{Nothing}

-- what the silence of an open connection asks for
abbrev pub due_of : Connection → ℕ → Due
due_of connection now =
    if is_known connection.stage then due_after connection.kind (now - connection.heard) connection.pinged else Nothing

-- Nothing is due to a connection because of the time.
abbrev pub IsUndue : Connection → ℕ → Type 0
IsUndue connection now = (is_late connection.stage now ≡ false) × (due_of connection now ≡ Nothing)
