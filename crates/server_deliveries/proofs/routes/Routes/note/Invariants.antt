use Rattle.std.proofs.Common.{◌≡◌, ℕ, List, take}
use Rattle.server_deliveries.specs.Routes.{routes_noted}
use Rattle.server_deliveries.specs.Views.{reach_of}
use Rattle.server_deliveries.proofs.routes.Routes.note.Given as goal

-- the reports so far are noted
abbrev pub invariant-loop-one : goal.invariant-loop-one
invariant-loop-one l = (uid : List ℕ) → reach_of l.self uid ≡ routes_noted (take l.one-index l.handled) (reach_of l.fn.self) uid
