use Rattle.std.proofs.Common.{◌≡◌, take}
use Rattle.std.specs.Prelude.{not, is_some}
use Rattle.plain_values.specs.Pairs.{value_at}
use Rattle.agent_packages.specs.Packages.{names_where}
use Rattle.agent_packages.proofs.planning.names_to_remove.Given as goal

abbrev pub invariant-loop-item : goal.invariant-loop-item
invariant-loop-item l = l.names ≡ names_where (λ item. not (is_some (value_at l.offered item.key))) (take l.item-index l.packages)
