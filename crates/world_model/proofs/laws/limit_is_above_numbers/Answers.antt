use Rattle.std.proofs.Common.{arith}
use Rattle.world_model.proofs.Kept.{world_sound}
use Rattle.world_model.proofs.laws.limit_is_above_numbers.Goals as goal

pub returns : goal.returns
returns c = record { above = λ start events place e at. let s = world_sound start events in omega (arith, s.fit.below place e at, s.fit.limit) }
