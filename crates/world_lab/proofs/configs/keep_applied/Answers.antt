use Rattle.std.proofs.Common.{◌≡◌, ◌∙◌, true, false, None, Some, codes}
use Rattle.agent_rules.specs.Half.{no_config}
use Rattle.agent_rules.specs.Keeping.{Call, ConfigDone}
use Rattle.agent_rules.specs.Offers.{config_call, failed_call}
use Rattle.agent_config.specs.Config.{as_offer}
use Rattle.world_lab.proofs.Lines.{if_ok, on_ok}
use Rattle.world_lab.proofs.Hosts.{generations_kept, large_other, no_others, no_room, not_spent, refused_agent, refused_stage, room_is, seated_refused, with_agent}
use Rattle.world_lab.proofs.ConfigCalls.{applied_goes, applied_kept, applied_so, applied_stops, config_stopped, goes_applied, goes_as, kept_as, large_is, stops_as}
use Rattle.world_lab.proofs.configs.keep_applied.Goals as goal

pub returns-in-Ok : goal.returns-in-Ok
returns-in-Ok c =
    let old = c.args.host.now in
    let files = c.args.trial.tried in
    let status = c.in_ok-status.status in
    let is = c.in_ok-status.ensures.status files in
    let room = c.in-Ok.ensures.room in
    record {
      goes = applied_goes old _ files c.args.hash status c.requires.names is room
          (goes_applied old c.config_done.new.agent c.config_done.new.disk files status c.requires.seated c.requires.files room c.in-Ok.ensures.kept c.in-Ok.ensures.played);
      applied = applied_so old.agent.half files c.args.hash status true c.requires.names is room;
      kept = applied_kept old.agent.half files c.args.hash status c.requires.names is room;
      stopped = λ e. absurd (cc e);
    }

pub keep_large-requires : goal.keep_large-requires
keep_large-requires c =
    let call = ConfigDone (Some c.args.trial.tried) c.in_ok-status.status in
    let played = rw c.in-Err-TooLarge.field-0-is at c.in-Err-TooLarge.ensures.played in
    let others = no_others c.args.host.now c.args.trial.tried c.requires.files in
    record {
      seated = seated_refused c.args.host.now c.config_done.new.agent c.config_done.new.disk call _ (large_other (Unit {0})) c.requires.seated played;
      others = record { packages = others.packages; status = others.status };
      generations = generations_kept c.args.host.now (with_agent c.args.host.now c.config_done.new.agent c.config_done.new.disk) 1
          (refused_agent c.args.host.now c.config_done.new.agent c.config_done.new.disk call _ (large_other (Unit {0})) played) c.requires.generations;
    }

pub returns-in-Err-TooLarge : goal.returns-in-Err-TooLarge
returns-in-Err-TooLarge c =
    let old = c.args.host.now in
    let mid = with_agent old c.config_done.new.agent c.config_done.new.disk in
    let new = c.keep_large.new.host in
    let files = c.args.trial.tried in
    let status = c.in_ok-status.status in
    let call = ConfigDone (Some files) status in
    let played = rw c.in-Err-TooLarge.field-0-is at c.in-Err-TooLarge.ensures.played in
    let agent = refused_agent old c.config_done.new.agent c.config_done.new.disk call _ (large_other (Unit {0})) played in
    let stage = refused_stage old c.config_done.new.agent c.config_done.new.disk call _ (large_other (Unit {0})) played in
    let none = no_room old.agent call (room_is old c.requires.seated) (rw c.in-Err-TooLarge.field-0-is at c.in-Err-TooLarge.ensures.refused) in
    let first : Call = failed_call (as_offer no_config c.args.hash) (codes "too large") in
    let there : Call = config_call old.agent.half None (as_offer files c.args.hash) in
    let is : first ≡ there = large_is old.agent.half files c.args.hash status c.requires.names (c.in_ok-status.ensures.status files) none in
    let not_applied = applied_so old.agent.half files c.args.hash status false c.requires.names (c.in_ok-status.ensures.status files) none in
    record {
      goes = on_ok c.keep_large.result (λ goes. goes_as old mid new first there is agent stage goes) c.keep_large.ensures.goes;
      applied = if_ok c.keep_large.result (λ done applied. applied ∙ not_applied) c.keep_large.ensures.applied;
      kept = if_ok c.keep_large.result (λ done kept. kept_as old mid first there done.kept is agent kept) c.keep_large.ensures.kept;
      stopped = λ e. stops_as old mid new first there is agent stage (c.keep_large.ensures.stopped e);
    }

pub returns-in-Err-StoreFault-clause-stopped : goal.returns-in-Err-StoreFault-clause-stopped
returns-in-Err-StoreFault-clause-stopped c = λ e.
    applied_stops c.args.host.now _ c.args.trial.tried c.args.hash c.in_ok-status.status c.requires.names (c.in_ok-status.ensures.status c.args.trial.tried)
    (config_stopped c.args.host.now c.config_done.new.agent c.config_done.new.disk (Some c.args.trial.tried) c.in_ok-status.status c.requires.seated
    (no_others c.args.host.now c.args.trial.tried c.requires.files) (rw c.in-Err-StoreFault.field-0-is at c.in-Err-StoreFault.ensures.played))

pub unreachable-requires : goal.unreachable-requires
unreachable-requires c =
    not_spent c.args.host.now.agent (ConfigDone (Some c.args.trial.tried) c.in_ok-status.status) c.requires.generations (rw c.in-Err-NumbersSpent.field-0-is at c.in-Err-NumbersSpent.ensures.refused)
