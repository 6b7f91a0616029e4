use Rattle.std.proofs.Common.{◌≡◌, None, codes, ap, refl}
use Rattle.agent_rules.specs.Half.{no_config}
use Rattle.agent_rules.specs.Keeping.{Call, ConfigDone}
use Rattle.agent_rules.specs.Offers.{failed_call}
use Rattle.agent_config.specs.Config.{as_offer}
use Rattle.world_lab.proofs.Lines.{if_ok, on_ok}
use Rattle.world_lab.proofs.ConfigCalls.{goes_as, kept_as, stops_as}
use Rattle.world_lab.proofs.configs.keep_bad_name.Goals as goal

pub returns : goal.returns
returns c =
    let old = c.args.host.now in
    let new = c.keep_failed.new.host in
    let there : Call = failed_call (as_offer no_config c.args.hash) (codes "bad name") in
    let is : ConfigDone None c.in_ok-status.status ≡ there = ap (λ s. ConfigDone None s) (c.in_ok-status.ensures.status no_config) in
    record {
      goes = on_ok c.keep_failed.result (λ goes. goes_as old old new (ConfigDone None c.in_ok-status.status) there is refl refl goes) c.keep_failed.ensures.goes;
      applied = c.keep_failed.ensures.applied;
      kept = if_ok c.keep_failed.result (λ done kept. kept_as old old (ConfigDone None c.in_ok-status.status) there done.kept is refl kept) c.keep_failed.ensures.kept;
      stopped = λ e. stops_as old old new (ConfigDone None c.in_ok-status.status) there is refl refl (c.keep_failed.ensures.stopped e);
    }
