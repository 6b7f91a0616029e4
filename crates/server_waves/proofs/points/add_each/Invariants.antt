use Rattle.std.proofs.Common.{◌≡◌, ◌++◌, take}
use Rattle.server_waves.proofs.points.add_each.Given as goal

-- those so far were added
abbrev pub invariant-loop-uid : goal.invariant-loop-uid
invariant-loop-uid l = l.uids ≡ l.fn.uids ++ take l.uid-index l.more
