use Rattle.std.proofs.Common.{◌≡◌, ℕ, if◌then◌else◌, List, take}
use Rattle.server_core.specs.History.{is_among}
use Rattle.server_deliveries.specs.Lists.{AreFilled, conns_at}
use Rattle.server_deliveries.specs.Routes.{without}
use Rattle.server_deliveries.proofs.lists.drop_from.Given as goal

-- the connection is none of the agents so far, and no list is empty
abbrev pub invariant-loop-uid : goal.invariant-loop-uid
invariant-loop-uid l =
    ((u : List ℕ) → conns_at l.conns u ≡ (if is_among (take l.uid-index l.uids) u then without l.conn (conns_at l.fn.conns u) else conns_at l.fn.conns u))
    × (AreFilled l.fn.conns → AreFilled l.conns)
