use Rattle.std.proofs.Common.{length}
use Rattle.edge_http.specs.Steps.{Moves}
use Rattle.edge_http.proofs.part_reader.PartReader.run.Given as goal

abbrev pub invariant-steps : goal.invariant-steps
invariant-steps l = Moves l.initial.self l.self

abbrev pub decreases-steps : goal.decreases-steps
decreases-steps l = length l.self.unused
