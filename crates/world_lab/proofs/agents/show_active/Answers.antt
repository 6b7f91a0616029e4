use Rattle.std.proofs.Common.{rules}
use Rattle.world_lab.proofs.Lines.{active_plays}
use Rattle.world_lab.proofs.agents.show_active.Goals as goal

pub returns : goal.returns
returns c = record {
  played = active_plays c.args.play.now _ (search rules);
}
