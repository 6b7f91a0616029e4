use Rattle.std.proofs.Common.{None}
use Rattle.world_model.specs.World.{world}
use Rattle.world_model.proofs.Kept.{world_sound}
use Rattle.world_model.proofs.Exchanges.{two_settle}
use Rattle.world_model.proofs.Headline.{two_held}
use Rattle.world_model.proofs.laws.two_exchanges_suffice.Goals as goal

pub returns-clause-plain : goal.returns-clause-plain
returns-clause-plain c = λ start events first second between may may_again. (two_settle (world start events) first second None between (world_sound start events) may may_again).0

pub returns-clause-held : goal.returns-clause-held
returns-clause-held c = λ start events first second between may may_again. two_held start events first second None between may may_again
