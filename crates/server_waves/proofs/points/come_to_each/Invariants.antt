use Rattle.std.proofs.Common.{◌≡◌, ◌-◌, length}
use Rattle.server_waves.specs.Candidates.{is_candidate}
use Rattle.server_waves.proofs.FoldLemmas.{Front}
use Rattle.server_waves.proofs.points.come_to_each.Given as goal

-- the rollouts before the place came to their points
abbrev pub invariant-loop-at : goal.invariant-loop-at
invariant-loop-at g l = record {
  front : Front (g.J.Judge.finds_fine l.judge) l.heard l.fn.rollouts.items l.fn.server.table l.at l.rollouts.items l.server.table l.newly (is_candidate l.later);
  profile : l.server.profile ≡ l.fn.server.profile;
}

abbrev pub decreases-loop-at : goal.decreases-loop-at
decreases-loop-at g l = length l.fn.rollouts.items - l.at
