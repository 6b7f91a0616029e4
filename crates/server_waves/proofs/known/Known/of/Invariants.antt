use Rattle.std.proofs.Common.{◌≡◌, ℕ, List, take}
use Rattle.server_core.specs.History.{is_among}
use Rattle.server_waves.proofs.known.Known.of.Given as goal

-- those so far are known
abbrev pub invariant-loop-uid : goal.invariant-loop-uid
invariant-loop-uid l = (u : List ℕ) → is_among l.known u ≡ is_among (take l.uid-index l.uids) u
