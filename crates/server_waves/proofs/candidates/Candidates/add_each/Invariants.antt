use Rattle.std.proofs.Common.{◌≡◌, ℕ, List, take, true}
use Rattle.server_core.specs.History.{is_among}
use Rattle.server_waves.specs.Candidates.{is_candidate}
use Rattle.server_waves.proofs.candidates.Candidates.add_each.Given as goal

-- those so far are candidates
abbrev pub invariant-loop-uid : goal.invariant-loop-uid
invariant-loop-uid l = record {
  added : (u : List ℕ) → is_among (take l.uid-index l.uids) u ≡ true → is_candidate l.self u ≡ true;
  kept : (u : List ℕ) → is_candidate l.fn.self u ≡ true → is_candidate l.self u ≡ true;
}
