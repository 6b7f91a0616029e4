use Rattle.std.proofs.Common.{◌≡◌, take}
use Rattle.agent_packages.specs.Packages.{is_same, names_where}
use Rattle.agent_packages.proofs.planning.names_to_keep.Given as goal

abbrev pub invariant-loop-item : goal.invariant-loop-item
invariant-loop-item l = l.names ≡ names_where (is_same l.held) (take l.item-index l.packages)
