use Rattle.std.specs.Prelude.{◌≡◌, length}
use Rattle.std.specs.Io.KnownBytes.{Keeps}
use Rattle.edge_dialer.proofs.http_link.read_piece.Given as goal

abbrev pub invariant-loop : goal.invariant-loop
invariant-loop g l = Keeps (g.S.Read.remaining l.initial.stream) (g.S.Read.remaining l.stream) × (length l.buffer ≡ length l.initial.buffer)
