use Rattle.std.proofs.Common.{refl, arith}
use Rattle.agent_rules.proofs.CallLemmas.{handed_out, limit_left, limits_kept, stays_reserved}
use Rattle.agent_rules.proofs.rules.laws.numbers_stay_reserved.Goals as goal

pub returns : goal.returns
returns c = record {
  starts = λ local saved is_kept room asks_uid. record { below = omega arith; fresh = λ is. refl };
  stays = stays_reserved;
  handed_out = handed_out;
  kept = limits_kept;
  left = limit_left;
}
