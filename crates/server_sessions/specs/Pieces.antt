-- What becomes of bytes that came on a connection, of which an operator's are served over all known connections.
use Rattle.std.specs.Prelude.{◌≡◌, ℕ, List, [], Bool, true, false, MatchOption}
use Rattle.server_lines.specs.Sights.{Sight}
use Rattle.server_sessions.specs.Connections.{Known, ServesPiece, known_at, with_kept}
use Rattle.server_sessions.specs.Reports.{Host}
use Rattle.server_sessions.specs.Session.{Scene}
use Rattle.server_sessions.specs.declared.connection.Connection.{Connection}
use Rattle.server_sessions.specs.declared.connection.Connection.TheVariants.{Operator}
use Rattle.server_sessions.specs.declared.connections.Piece.{Piece}
use Rattle.server_sessions.specs.declared.connections.Piece.TheVariants.{Lines, Served}

-- the connection stays so far
abbrev pub is_staying : Piece → Bool
is_staying (Served stays) = stays
is_staying (Lines front) = true

-- What the bytes bring is served, whatever lines are asked over; or the connection is an operator's, and what was kept of it is lent, and nothing else is done.
abbrev pub BeginsPiece : Host → ℕ → List ℕ → Piece → Connection → Connection → Scene → Scene → Bool → Type 0
BeginsPiece host conn bytes (Served stays) kept kept' old new stop = (sight : Sight) → ServesPiece host sight conn bytes kept kept' old new (record { stays = stays; stop = stop })
BeginsPiece host conn bytes (Lines front) kept kept' old new stop = (kept ≡ Operator front) × (kept' ≡ Operator []) × (new ≡ old) × (stop ≡ false)

-- The same for a connection that may not be known.
abbrev pub TakesFirst : Host → ℕ → List ℕ → Piece → Known → Known → Scene → Scene → Bool → Type 0
TakesFirst host conn bytes piece known known' old new stop =
    MatchOption (known_at known conn)
    ((known' ≡ known) × (new ≡ old) × (piece ≡ Served true) × (stop ≡ false))
    (λ kept. (kept' : Connection) × (known' ≡ with_kept known conn kept') × BeginsPiece host conn bytes piece kept kept' old new stop)
