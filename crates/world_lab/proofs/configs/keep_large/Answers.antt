use Rattle.std.proofs.Common.{◌≡◌, None, codes, ap}
use Rattle.agent_rules.specs.Half.{no_config}
use Rattle.agent_rules.specs.Keeping.{Call, ConfigDone}
use Rattle.agent_rules.specs.Offers.{failed_call}
use Rattle.agent_config.specs.Config.{as_offer}
use Rattle.world_lab.proofs.Lines.{if_ok, on_ok}
use Rattle.world_lab.proofs.Hosts.{generations_kept, stage_kept}
use Rattle.world_lab.proofs.ConfigCalls.{goes_as, kept_as, stops_as}
use Rattle.world_lab.proofs.configs.keep_large.Goals as goal

pub keep_failed-requires : goal.keep_failed-requires
keep_failed-requires c = record {
  hosted = c.in_ok-bring_back.ensures.hosted;
  generations = generations_kept c.args.host.now c.bring_back.new.host 1 c.bring_back.ensures.agent c.requires.generations;
}

pub returns : goal.returns
returns c =
    let old = c.args.host.now in
    let mid = c.bring_back.new.host in
    let new = c.keep_failed.new.host in
    let there : Call = failed_call (as_offer no_config c.args.hash) (codes "too large") in
    let is : ConfigDone None c.in_ok-status.status ≡ there = ap (λ s. ConfigDone None s) (c.in_ok-status.ensures.status no_config) in
    let agent = c.bring_back.ensures.agent in
    let stage = stage_kept old mid agent c.bring_back.ensures.disk in
    record {
      goes = on_ok c.keep_failed.result (λ goes. goes_as old mid new (ConfigDone None c.in_ok-status.status) there is agent stage goes) c.keep_failed.ensures.goes;
      applied = c.keep_failed.ensures.applied;
      kept = if_ok c.keep_failed.result (λ done kept. kept_as old mid (ConfigDone None c.in_ok-status.status) there done.kept is agent kept) c.keep_failed.ensures.kept;
      stopped = λ e. stops_as old mid new (ConfigDone None c.in_ok-status.status) there is agent stage (c.keep_failed.ensures.stopped e);
    }
