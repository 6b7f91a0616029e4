use Rattle.world_lab.proofs.Heard.{lost_end, trial_lost}
use Rattle.world_lab.proofs.replies.abandon.Goals as goal

pub returns : goal.returns
returns c = record {
  goes = trial_lost c.calls_beside_disk.ensures.leads c.calls_beside_disk.ensures.at_rest c.args.host.now c.abandon_try.new.self c.requires.hosted c.requires.trying c.requires.lost
      c.abandon_try.ensures.left c.abandon_try.ensures.store;
  end = lost_end c.args.host.now.agent.half c.args.endpoint c.requires.trying c.requires.lost c.requires.endpoint;
}
