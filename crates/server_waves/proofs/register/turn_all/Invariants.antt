use Rattle.std.proofs.Common.{◌≡◌, ◌-◌, ◌≤◌, ◌++◌, drop, length, map, take}
use Rattle.server_waves.specs.Register.{with_waves}
use Rattle.server_waves.specs.Turns.{turned}
use Rattle.server_waves.proofs.register.turn_all.Given as goal

-- the rollouts before the place were done
abbrev pub invariant-loop-at : goal.invariant-loop-at
invariant-loop-at l = record {
  within : l.at ≤ length l.fn.rollouts.items;
  turned : l.rollouts.items ≡ map (with_waves (turned l.turn) l.id) (take l.at l.fn.rollouts.items) ++ drop l.at l.fn.rollouts.items;
}

abbrev pub decreases-loop-at : goal.decreases-loop-at
decreases-loop-at l = length l.fn.rollouts.items - l.at
