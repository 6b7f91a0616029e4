use Rattle.std.proofs.Common.{◌≡◌, ℕ, List, take, true}
use Rattle.server_waves.specs.Candidates.{AreUndecidedBut, is_candidate}
use Rattle.server_waves.proofs.candidates.Candidates.weigh_all.Given as goal

-- those weighed so far
abbrev pub invariant-loop-uid : goal.invariant-loop-uid
invariant-loop-uid g l = record {
  weighed : AreUndecidedBut (is_candidate l.self) (g.J.Judge.finds_fine l.judge) l.hash l.server.table.records (take l.uid-index l.uids);
  kept : (u : List ℕ) → is_candidate l.fn.self u ≡ true → is_candidate l.self u ≡ true;
}
