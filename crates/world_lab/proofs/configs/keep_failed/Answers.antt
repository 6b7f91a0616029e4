use Rattle.std.proofs.Common.{None, sym, refl}
use Rattle.agent_rules.specs.Keeping.{ConfigDone}
use Rattle.world_lab.proofs.Hosts.{goes_refused, no_others, no_room, not_spent, room_is, stays_refused}
use Rattle.world_lab.proofs.ConfigCalls.{config_stopped, goes_failed}
use Rattle.world_lab.proofs.configs.keep_failed.Goals as goal

pub returns-in-Ok-clause-goes : goal.returns-in-Ok-clause-goes
returns-in-Ok-clause-goes c = goes_failed c.args.host.now c.config_done.new.agent c.config_done.new.disk c.args.status c.requires.hosted c.in-Ok.ensures.room c.in-Ok.ensures.kept c.in-Ok.ensures.played

pub returns-in-Ok-clause-kept : goal.returns-in-Ok-clause-kept
returns-in-Ok-clause-kept c =
    sym c.in-Ok.ensures.room

pub returns-in-Err-TooLarge : goal.returns-in-Err-TooLarge
returns-in-Err-TooLarge c =
    let call = ConfigDone None c.args.status in
    let room = no_room c.args.host.now.agent call (room_is c.args.host.now c.requires.hosted.seated) (rw c.in-Err-TooLarge.field-0-is at c.in-Err-TooLarge.ensures.refused) in
    record {
      goes = goes_refused c.args.host.now _ call room
          (stays_refused c.args.host.now c.config_done.new.agent c.config_done.new.disk call _ (λ e. cc e, λ e. cc e) c.requires.hosted
          (rw c.in-Err-TooLarge.field-0-is at c.in-Err-TooLarge.ensures.played));
      applied = refl;
      kept = sym room;
      stopped = λ is. absurd (cc is);
    }

pub returns-in-Err-StoreFault-clause-stopped : goal.returns-in-Err-StoreFault-clause-stopped
returns-in-Err-StoreFault-clause-stopped c = λ is.
    config_stopped c.args.host.now c.config_done.new.agent c.config_done.new.disk None c.args.status c.requires.hosted.seated (no_others c.args.host.now _ c.requires.hosted.files)
    (rw c.in-Err-StoreFault.field-0-is at c.in-Err-StoreFault.ensures.played)

pub unreachable-requires : goal.unreachable-requires
unreachable-requires c = not_spent c.args.host.now.agent (ConfigDone None c.args.status) c.requires.generations (rw c.in-Err-NumbersSpent.field-0-is at c.in-Err-NumbersSpent.ensures.refused)
