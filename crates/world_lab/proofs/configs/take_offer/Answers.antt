use Rattle.std.proofs.Common.{◌≡◌, ◌∙◌, None, Some, ap, refl}
use Rattle.agent_rules.specs.Keeping.{Call}
use Rattle.agent_rules.specs.Offers.{config_call}
use Rattle.agent_config.specs.Config.{as_offer}
use Rattle.world_lab.specs.Transcripts.{is_applied}
use Rattle.world_lab.proofs.Lines.{if_ok, on_ok}
use Rattle.world_lab.proofs.ConfigCalls.{goes_as, kept_as, stops_as}
use Rattle.world_lab.proofs.configs.take_offer.Goals as goal

pub try_files-requires : goal.try_files-requires
try_files-requires c = record { hosted = c.requires.hosted; former = c.in-Ok.ensures.former; generations = c.requires.generations }

pub returns-in-Ok : goal.returns-in-Ok
returns-in-Ok c =
    let old = c.args.host.now in
    let new = c.try_files.new.host in
    let hash = c.args.offer.config_hash in
    let files = c.in-Ok.ensures.tried ∙ c.offered_files-files.ensures.files in
    let first : Call = config_call old.agent.half None (as_offer c.in-Ok.trial.tried hash) in
    let there : Call = config_call old.agent.half None c.args.offer in
    let is : first ≡ there = ap (λ f. config_call old.agent.half None (as_offer f hash)) files in
    record {
      goes = on_ok c.try_files.result (λ goes. goes_as old old new first there is refl refl goes) c.try_files.ensures.goes;
      applied = if_ok c.try_files.result (λ done applied. applied ∙ ap (λ f. Some (is_applied old.agent.half (as_offer f hash))) files) c.try_files.ensures.applied;
      kept = if_ok c.try_files.result (λ done kept. kept_as old old first there done.kept is refl kept) c.try_files.ensures.kept;
      stopped = λ e. stops_as old old new first there is refl refl (c.try_files.ensures.stopped e);
    }
