use Rattle.std.proofs.Common.{◌≡◌, take}
use Rattle.std.specs.Prelude.{not}
use Rattle.agent_packages.specs.Packages.{is_same, names_where}
use Rattle.agent_packages.proofs.planning.names_to_fetch.Given as goal

abbrev pub invariant-loop-item : goal.invariant-loop-item
invariant-loop-item l = l.names ≡ names_where (λ item. not (is_same l.held item)) (take l.item-index l.packages)
