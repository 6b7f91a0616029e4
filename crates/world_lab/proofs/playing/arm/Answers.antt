use Rattle.std.proofs.Common.{refl}
use Rattle.world_lab.proofs.Lines.{armed_plays}
use Rattle.world_lab.proofs.playing.arm.Goals as goal

pub returns : goal.returns
returns c = record { played = λ servers. armed_plays c.args.call c.args.mode c.args.play.now _ refl refl refl refl refl refl servers }
