-- What failures mean.
use Rattle.std.specs.Prelude.{◌≡◌, ℕ, Result, Ok, Err, ⊤}
use Rattle.std.specs.IoError.{error_kind}
use Rattle.std.specs.declared.io.Error.{Error as SystemError}
use Rattle.std.specs.declared.io.ErrorKind.TheVariants as kind
use Rattle.tungstenite.specs.declared.error.Error.{Error}
use Rattle.tungstenite.specs.declared.error.Error.TheVariants as failure

-- The protocol wanted memory, or the system did under it.
abbrev pub IsWanting : Error → Type 0
IsWanting failure.OutOfMemory = ⊤
IsWanting (failure.Io error) = error_kind error ≡ kind.OutOfMemory
IsWanting _ = ⊥

-- A read of the protocol would have waited for the system.
abbrev pub IsWaiting : Error → Type 0
IsWaiting (failure.Io error) = error_kind error ≡ kind.WouldBlock
IsWaiting _ = ⊥

-- A look found neither bytes nor the end: a read would have waited.
abbrev pub WouldWait : Result ℕ SystemError → Type 0
WouldWait (Ok count) = ⊥
WouldWait (Err error) = error_kind error ≡ kind.WouldBlock
