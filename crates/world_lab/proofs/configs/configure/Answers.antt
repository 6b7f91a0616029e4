use Rattle.std.proofs.Common.{None, refl}
use Rattle.agent_rules.specs.Offers.{config_call}
use Rattle.world_lab.proofs.Lines.{if_ok}
use Rattle.world_lab.proofs.Hosts.{goes_nowhere}
use Rattle.world_lab.proofs.ConfigCalls.{one_fits}
use Rattle.world_lab.proofs.configs.configure.Goals as goal

pub returns-in-Some : goal.returns-in-Some
returns-in-Some c = record {
  goes = rw c.in-Some.is c.take_offer.ensures.goes;
  applied = rw c.in-Some.is c.take_offer.ensures.applied;
  kept = rw c.in-Some.is (if_ok c.take_offer.result (λ done kept. one_fits c.args.host.now.agent.half (config_call c.args.host.now.agent.half None c.in-Some.offer) done.kept kept) c.take_offer.ensures.kept);
  stopped = rw c.in-Some.is c.take_offer.ensures.stopped;
}

pub returns-in-None : goal.returns-in-None
returns-in-None c = record {
  goes = rw c.in-None.is (goes_nowhere c.args.host.now 1 c.requires.hosted);
  applied = rw c.in-None.is refl;
  kept = rw c.in-None.is refl;
  stopped = λ e. absurd (cc e);
}
