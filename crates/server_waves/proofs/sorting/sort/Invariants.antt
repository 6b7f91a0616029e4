use Rattle.std.proofs.Common.{◌≡◌, ◌+◌, ◌≤◌, ◌++◌, take, vec_len, vec_capacity}
use Rattle.server_waves.specs.Waves.{has_applied, has_failed, is_decided, others, those}
use Rattle.server_waves.proofs.sorting.sort.Given as goal

-- those looked at so far are sorted
abbrev pub invariant-loop-uid : goal.invariant-loop-uid
invariant-loop-uid g l = record {
  rest : l.rest.items ≡ l.fn.rest.items ++ others (is_decided (g.J.Judge.finds_fine l.judge) l.hash) l.server.table.records (take l.uid-index l.uids);
  applied : l.applied.items ≡ l.fn.applied.items ++ those (has_applied (g.J.Judge.finds_fine l.judge) l.hash) l.server.table.records (take l.uid-index l.uids);
  failed : l.failed.items ≡ l.fn.failed.items ++ those (has_failed (g.J.Judge.finds_fine l.judge) l.hash) l.server.table.records (take l.uid-index l.uids);
  grown : vec_len l.rest + vec_len l.applied + vec_len l.failed ≡ vec_len l.fn.rest + vec_len l.fn.applied + vec_len l.fn.failed + l.uid-index;
  rest_grown : vec_len l.fn.rest ≤ vec_len l.rest;
  applied_grown : vec_len l.fn.applied ≤ vec_len l.applied;
  failed_grown : vec_len l.fn.failed ≤ vec_len l.failed;
  rest_capacity : vec_capacity l.fn.rest ≤ vec_capacity l.rest;
  applied_capacity : vec_capacity l.fn.applied ≤ vec_capacity l.applied;
  failed_capacity : vec_capacity l.fn.failed ≤ vec_capacity l.failed;
}
