use Rattle.std.proofs.Common.{◌≡◌, ℕ, ◌<◌, ◌≤◌, get_or}
use Rattle.edge_devices.specs.DiskReplays.{after, left_byte}
use Rattle.edge_devices.proofs.memory_disk.leave.Given as goal

abbrev pub invariant-loop-i : goal.invariant-loop-i
invariant-loop-i l = record {
  done : (k : ℕ) → k < l.i → get_or l.byte-items k 0 ≡ left_byte l.mode (after l.calls k);
  rest : (k : ℕ) → l.i ≤ k → (after l.calls k).seen ≡ get_or l.byte-items k 0;
}
