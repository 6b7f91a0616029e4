use Rattle.std.proofs.Common.{◌≡◌, ◌-◌, ◌≤◌, ◌++◌, drop, length, map, take}
use Rattle.server_waves.specs.Register.{without_agent}
use Rattle.server_waves.proofs.register.take_out_of_all.Given as goal

-- the agent left the rollouts before the place
abbrev pub invariant-loop-at : goal.invariant-loop-at
invariant-loop-at l = record {
  within : l.at ≤ length l.fn.rollouts.items;
  taken_out : l.rollouts.items ≡ map (without_agent l.uid) (take l.at l.fn.rollouts.items) ++ drop l.at l.fn.rollouts.items;
}

abbrev pub decreases-loop-at : goal.decreases-loop-at
decreases-loop-at l = length l.fn.rollouts.items - l.at
