use Rattle.std.proofs.Common.{◌≡◌, take, map}
use Rattle.agent_packages.proofs.planning.all_names.Given as goal

abbrev pub invariant-loop-item : goal.invariant-loop-item
invariant-loop-item l = l.names ≡ map (λ item. item.key) (take l.item-index l.packages)
