use Rattle.std.proofs.Common.{◌≤◌}
use Rattle.agent_rounds.specs.Moments.{with_clock, with_folder}
use Rattle.agent_rounds.specs.Stages.{Stage}
use Rattle.agent_rounds.proofs.ProvingLemmas.{Watched}
use Rattle.agent_rounds.proofs.proving.watch.Given as goal

-- no reading so far had a word
abbrev pub invariant-loop : goal.invariant-loop
invariant-loop g l = record {
  so_far : (s : Stage) → Watched l.fn.waits l.counter l.fn.name
      (with_folder (g.F.Folder.state l.fn.folder) (with_clock (g.C.Clock.state l.fn.clock) s))
      (with_folder (g.F.Folder.state l.folder) (with_clock (g.C.Clock.state l.clock) s));
  folder_count : (g.F.Folder.state l.fn.folder).faults ≤ (g.F.Folder.state l.folder).faults;
  clock_count : (g.C.Clock.state l.fn.clock).faults ≤ (g.C.Clock.state l.clock).faults;
}
