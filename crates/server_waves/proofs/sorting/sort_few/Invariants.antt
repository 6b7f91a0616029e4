use Rattle.std.proofs.Common.{◌≡◌, ◌+◌, ◌-◌, ◌≤◌, ◌++◌, ℕ, List, take, true, vec_len, vec_capacity}
use Rattle.server_core.specs.History.{is_among}
use Rattle.server_waves.specs.Candidates.{AreUndecided}
use Rattle.server_waves.specs.Waves.{has_applied, has_failed, is_decided, others, those}
use Rattle.server_waves.proofs.sorting.sort_few.Given as goal

-- those before the place are undecided, and to sort what is left is to sort all
abbrev pub invariant-loop-at : goal.invariant-loop-at
invariant-loop-at g l = record {
  within : l.at ≤ vec_len l.offered;
  undecided : AreUndecided (g.J.Judge.finds_fine l.judge) l.hash l.server.table.records (take l.at l.offered.items);
  others : others (is_decided (g.J.Judge.finds_fine l.judge) l.hash) l.server.table.records l.offered.items ≡ others (is_decided (g.J.Judge.finds_fine l.judge) l.hash) l.server.table.records l.fn.offered.items;
  applied : l.applied.items ++ those (has_applied (g.J.Judge.finds_fine l.judge) l.hash) l.server.table.records l.offered.items ≡ l.fn.applied.items ++ those (has_applied (g.J.Judge.finds_fine l.judge) l.hash) l.server.table.records l.fn.offered.items;
  failed : l.failed.items ++ those (has_failed (g.J.Judge.finds_fine l.judge) l.hash) l.server.table.records l.offered.items ≡ l.fn.failed.items ++ those (has_failed (g.J.Judge.finds_fine l.judge) l.hash) l.server.table.records l.fn.offered.items;
  fewer : (uid : List ℕ) → is_among l.offered.items uid ≡ true → is_among l.fn.offered.items uid ≡ true;
  grown : vec_len l.offered + vec_len l.applied + vec_len l.failed ≡ vec_len l.fn.offered + vec_len l.fn.applied + vec_len l.fn.failed;
  applied_grown : vec_len l.fn.applied ≤ vec_len l.applied;
  failed_grown : vec_len l.fn.failed ≤ vec_len l.failed;
  applied_capacity : vec_capacity l.fn.applied ≤ vec_capacity l.applied;
  failed_capacity : vec_capacity l.fn.failed ≤ vec_capacity l.failed;
}

abbrev pub decreases-loop-at : goal.decreases-loop-at
decreases-loop-at g l = vec_len l.offered - l.at
