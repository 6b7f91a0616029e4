-- What is due on a silent connection.
use Rattle.std.specs.Prelude.{ℕ, nat_le, Bool, ◌&&◌, not, if◌then◌else◌}
use Rattle.edge_devices.specs.declared.wires.Kind.{Kind}
use Rattle.edge_devices.specs.declared.wires.Kind.TheVariants.{Http, Ws, Operator}
use Rattle.edge_wire.specs.declared.silence.Due.{Due}
use Rattle.edge_wire.specs.declared.silence.Due.TheVariants.{End, Nothing, Ping}

-- An HTTP connection ends after 120 s of silence; a WebSocket connection is pinged once after 60 s and ends after 120;
-- an operator may be silent.
abbrev pub due_after : Kind → ℕ → Bool → Due
due_after Http silent pinged = if nat_le 120000 silent then End else Nothing
due_after Ws silent pinged =
    if nat_le 120000 silent then End
    else (if nat_le 60000 silent && not pinged then Ping else Nothing)
due_after Operator silent pinged = Nothing
