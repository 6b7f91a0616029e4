use Rattle.std.proofs.Common.{ℕ, set, ap}
use Rattle.world_lab.proofs.Lines.{emptied_plays}
use Rattle.world_lab.proofs.servers.restart_server.Goals as goal

pub returns : goal.returns
returns c = record {
  played = λ play. emptied_plays c.runs_go_on.ensures.world c.runs_go_on.ensures.arrivals c.args.server c.args.servers.now _ c.fresh_server.result c.requires.digit c.fresh_server.ensures.fresh
      (ap (λ (n : ℕ). set c.args.servers.now n c.fresh_server.result) c.from.ensures) play;
}
