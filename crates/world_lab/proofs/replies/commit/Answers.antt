use Rattle.std.proofs.Common.{refl}
use Rattle.agent_rules.specs.Keeping.{CommitTry}
use Rattle.world_lab.proofs.ScriptAgents.{agent_kept_trial, trial_keepable}
use Rattle.world_lab.proofs.Hosts.{goes_played, no_others, no_room, not_spent, room_is, stays_refused, stops_played}
use Rattle.world_lab.proofs.replies.commit.Goals as goal

pub returns-in-Ok-clause-commits : goal.returns-in-Ok-clause-commits
returns-in-Ok-clause-commits c = (
  c.in-Ok.ensures.room,
  goes_played c.args.host.now c.commit_try.new.agent c.commit_try.new.disk CommitTry tt c.requires.hosted.seated c.requires.hosted.files
      (agent_kept_trial c.args.host.now.agent.half c.requires.hosted.seated.agent) c.in-Ok.ensures.room c.in-Ok.ensures.kept refl c.in-Ok.ensures.played,
)

pub returns-in-Err-TooLarge-clause-commits : goal.returns-in-Err-TooLarge-clause-commits
returns-in-Err-TooLarge-clause-commits c = (
  no_room c.args.host.now.agent CommitTry (room_is c.args.host.now c.requires.hosted.seated) (rw c.in-Err-TooLarge.field-0-is at c.in-Err-TooLarge.ensures.refused),
  stays_refused c.args.host.now c.commit_try.new.agent c.commit_try.new.disk CommitTry _ (λ e. cc e, λ e. cc e) c.requires.hosted
      (rw c.in-Err-TooLarge.field-0-is at c.in-Err-TooLarge.ensures.played),
)

pub returns-in-Err-StoreFault-clause-stopped : goal.returns-in-Err-StoreFault-clause-stopped
returns-in-Err-StoreFault-clause-stopped c = λ is.
    stops_played c.args.host.now c.commit_try.new.agent c.commit_try.new.disk CommitTry c.requires.hosted.seated
    (trial_keepable c.args.host.now.agent.half c.requires.hosted.seated.agent) (no_others c.args.host.now _ c.requires.hosted.files)
    (rw c.in-Err-StoreFault.field-0-is at c.in-Err-StoreFault.ensures.played)

pub unreachable-requires : goal.unreachable-requires
unreachable-requires c = not_spent c.args.host.now.agent CommitTry c.requires.generations (rw c.in-Err-NumbersSpent.field-0-is at c.in-Err-NumbersSpent.ensures.refused)
