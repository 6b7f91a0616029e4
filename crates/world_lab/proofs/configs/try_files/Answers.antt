use Rattle.std.proofs.Common.{◌≡◌, ◌∙◌, None, codes, Ok, ap, sym, subst, refl}
use Rattle.std.specs.Prelude.{IsTrue}
use Rattle.edge_devices.specs.Names.{are_good_names}
use Rattle.agent_rules.specs.Half.{no_config}
use Rattle.agent_rules.specs.Keeping.{Call}
use Rattle.agent_rules.specs.Offers.{config_call, failed_call, failed_with}
use Rattle.agent_config.specs.Config.{as_offer}
use Rattle.world_lab.specs.Hosts.{IsHosted}
use Rattle.world_lab.proofs.Lines.{if_ok, on_ok}
use Rattle.world_lab.proofs.Hosts.{good_active, with_folder}
use Rattle.world_lab.proofs.ConfigCalls.{bad_is, bad_so, files_brought, goes_as, kept_as, seated_folder, stops_as}
use Rattle.world_lab.proofs.configs.try_files.Goals as goal

pub apply-requires : goal.apply-requires
apply-requires c = subst (λ config. IsTrue (are_good_names config.config_map)) (sym c.requires.former) (good_active c.args.host.now c.requires.hosted.seated)

pub keep_applied-requires : goal.keep_applied-requires
keep_applied-requires c =
    let was = c.in-Ok-Applied.is ∙ ap (λ o. Ok o) c.in-Ok-Applied.field-0-is in
    record {
      seated = seated_folder c.args.host.now c.apply.new.folder c.requires.hosted.seated;
      files = files_brought c.args.host.now c.apply.new.folder _ c.args.trial.tried c.requires.hosted.files (c.apply.ensures.applied was refl) c.apply.ensures.others;
      former = c.requires.former;
      names = c.apply.ensures.names was;
      generations = c.requires.generations;
    }

pub returns-in-Ok-Applied : goal.returns-in-Ok-Applied
returns-in-Ok-Applied c =
    let old = c.args.host.now in
    let mid = with_folder old c.apply.new.folder in
    let new = c.keep_applied.new.host in
    let call : Call = config_call old.agent.half None (as_offer c.args.trial.tried c.args.hash) in
    record {
      goes = on_ok c.keep_applied.result (λ goes. goes_as old mid new call call refl refl refl goes) c.keep_applied.ensures.goes;
      applied = c.keep_applied.ensures.applied;
      kept = c.keep_applied.ensures.kept;
      stopped = λ e. stops_as old mid new call call refl refl refl (c.keep_applied.ensures.stopped e);
    }

pub keep_bad_name-requires : goal.keep_bad_name-requires
keep_bad_name-requires c =
    let name = c.in-Ok-BadName.name in
    let found = c.apply.ensures.good_names name (c.in-Ok-BadName.is ∙ ap (λ o. Ok o) c.in-Ok-BadName.field-0-is) in
    record {
      hosted = subst (λ folder. IsHosted (with_folder c.args.host.now folder)) (sym (c.apply.ensures.untouched name found)) c.requires.hosted;
      generations = c.requires.generations;
    }

pub returns-in-Ok-BadName : goal.returns-in-Ok-BadName
returns-in-Ok-BadName c =
    let old = c.args.host.now in
    let mid = with_folder old c.apply.new.folder in
    let new = c.keep_bad_name.new.host in
    let tried = c.args.trial.tried in
    let hash = c.args.hash in
    let name = c.in-Ok-BadName.name in
    let found = c.apply.ensures.good_names name (c.in-Ok-BadName.is ∙ ap (λ o. Ok o) c.in-Ok-BadName.field-0-is) in
    let first : Call = failed_call (as_offer no_config hash) (codes "bad name") in
    let there : Call = config_call old.agent.half None (as_offer tried hash) in
    let is : first ≡ there = bad_is old.agent.half tried hash name (failed_with (as_offer no_config hash) (codes "bad name")) found refl in
    record {
      goes = on_ok c.keep_bad_name.result (λ goes. goes_as old mid new first there is refl refl goes) c.keep_bad_name.ensures.goes;
      applied = if_ok c.keep_bad_name.result (λ done applied. applied ∙ bad_so old.agent.half tried hash name found) c.keep_bad_name.ensures.applied;
      kept = if_ok c.keep_bad_name.result (λ done kept. kept_as old mid first there done.kept is refl kept) c.keep_bad_name.ensures.kept;
      stopped = λ e. stops_as old mid new first there is refl refl (c.keep_bad_name.ensures.stopped e);
    }
