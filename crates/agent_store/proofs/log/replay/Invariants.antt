use Rattle.std.proofs.Common.{ℕ, ◌≡◌, ◌+◌, ◌-◌, ◌≤◌, length}
use Rattle.edge_devices.specs.Disks.{HasBytes}
use Rattle.agent_store.specs.Log.{replay}
use Rattle.agent_store.proofs.log.replay.Given as goal

abbrev pub invariant-loop-at : goal.invariant-loop-at
invariant-loop-at g l = let P = g.P.Payload in record {
  within : l.at ≤ length l.log;
  right : P.right l.part;
  typed : P.typed l.part;
  rest : (image : ℕ → ℕ) → HasBytes image l.start l.log
      → replay P.codec image (l.start + length l.log) (length l.log) l.start (P.canonical l.fn.part) ≡ replay P.codec image (l.start + length l.log) (length l.log - l.at) (l.start + l.at) (P.canonical l.part);
}

abbrev pub decreases-loop-at : goal.decreases-loop-at
decreases-loop-at g l = length l.log - l.at
