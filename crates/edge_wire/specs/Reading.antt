-- What a read of a connection's socket gives, and what comes of it.
use Rattle.std.specs.Prelude.{◌≡◌, ◌≤◌, ◌==◌, ℕ, List, length, take, if◌then◌else◌, Option, None, Some, Result, Ok, Err}
use Rattle.std.specs.IoError.{error_kind}
use Rattle.std.specs.declared.io.Error.{Error}
use Rattle.std.specs.declared.io.ErrorKind.{ErrorKind}
use Rattle.std.specs.declared.io.ErrorKind.TheVariants as failed
use Rattle.edge_wire.specs.Steps.{IsPiece}
use Rattle.edge_wire.specs.declared.connection.Got.{Got}
use Rattle.edge_wire.specs.declared.connection.Got.TheVariants as got
use Rattle.edge_wire.specs.declared.connection.Step.{Step}
use Rattle.edge_wire.specs.declared.connection.Step.TheVariants.{Again, Closed}

-- A read that would block gave nothing, one that was interrupted is made again, and any other failure is the end.
abbrev pub got_of_kind : ErrorKind → Got
got_of_kind failed.WouldBlock = got.Nothing
got_of_kind failed.Interrupted = got.Again
got_of_kind _ = got.End

-- That no bytes came is the end.
abbrev pub got_of : Result ℕ Error → Got
got_of (Ok count) = if count == 0 then got.End else got.Bytes count
got_of (Err error) = got_of_kind (error_kind error)

-- What a read of a plain connection comes to: the bytes that came, at the front of the buffer, are a piece, and an end is the end.
abbrev pub TakesRead : ℕ → List ℕ → Got → Option Step → Type 0
TakesRead conn buffer (got.Bytes count) (Some step) = count ≤ length buffer → IsPiece conn (take count buffer) step
TakesRead conn buffer (got.Bytes count) None = ⊥
TakesRead conn buffer got.Nothing step = step ≡ None
TakesRead conn buffer got.Again step = step ≡ Some Again
TakesRead conn buffer got.End step = step ≡ Some Closed
