use Rattle.std.proofs.Common.{◌≡◌, ℕ, List, take}
use Rattle.server_deliveries.specs.Routes.{routes_ended}
use Rattle.server_deliveries.specs.Views.{reach_of}
use Rattle.server_deliveries.proofs.routes.Routes.forget_all.Given as goal

-- the connections so far are forgotten
abbrev pub invariant-loop-conn : goal.invariant-loop-conn
invariant-loop-conn l = (uid : List ℕ) → reach_of l.self uid ≡ routes_ended (take l.conn-index l.ended) (reach_of l.fn.self) uid
