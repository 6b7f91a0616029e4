use Rattle.edge_wire.specs.Waiting.{IsRestOf}
use Rattle.edge_wire.proofs.connection.write_waiting.Given as goal

-- Some of the bytes went out, and the others wait.
abbrev pub invariant-loop : goal.invariant-loop
invariant-loop l = IsRestOf l.fn.unsent l.unsent
