use Rattle.std.proofs.Common.{◌≡◌, take}
use Rattle.server_waves.specs.Points.{with_heard}
use Rattle.server_waves.proofs.points.join_heard.Given as goal

-- those so far joined
abbrev pub invariant-loop-uid : goal.invariant-loop-uid
invariant-loop-uid l = l.rollout ≡ with_heard l.server.table.records (take l.uid-index l.heard) l.fn.rollout
