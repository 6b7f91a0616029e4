use Rattle.server_core.proofs.GatherLemmas.{Gathered}
use Rattle.server_core.proofs.forgetting.gather_here.Given as goal

-- of the records so far those that are here stand at the front
abbrev pub invariant-loop-at : goal.invariant-loop-at
invariant-loop-at l = Gathered l.fn.records l.fn.rows l.here l.at l.records l.rows
