use Rattle.std.proofs.Common.{Ok, Err, ap, refl}
use Rattle.agent_config.specs.Config.{as_offer}
use Rattle.agent_rounds.specs.Moments.{held_view, is_store_fault, with_agent, with_clock, with_folder, with_held}
use Rattle.agent_rounds.specs.Proving.{refusal}
use Rattle.agent_rounds.specs.Replies.{KeepsUnless, WatchesTrial}
use Rattle.agent_rounds.specs.Stages.{Stage}
use Rattle.agent_rounds.proofs.FollowLemmas.{follow, follow_ends}
use Rattle.agent_rounds.proofs.RunLemmas.{run_beside}
use Rattle.agent_rounds.proofs.configuring.keep_watched.Goals as goal

pub returns-in-Err-clause-does : goal.returns-in-Err-clause-does
returns-in-Err-clause-does g c = λ number.
    let disk = g.D.Disk.state c.args.disk.now in
    let f = λ (s : Stage). with_agent c.args.agent.now (with_held (held_view number c.args.held.now) (with_folder (g.F.Folder.state c.args.folder.now) (with_clock (g.C.Clock.state c.args.clock.now) s))) in
    let h = λ (s : Stage). with_agent c.args.agent.now (with_held (held_view number c.watch_trial.new.held) (with_folder (g.F.Folder.state c.watch_trial.new.folder) (with_clock (g.C.Clock.state c.watch_trial.new.clock) s))) in
    follow_ends (WatchesTrial c.args.watch.now) (λ said. KeepsUnless (refusal said) (as_offer c.args.trial.tried c.args.hash.now)) disk disk f h c.in-Err.end
    (λ s. run_beside (WatchesTrial c.args.watch.now) disk (f s) (h s) (Err c.in-Err.end) c.requires.fits refl refl (ap is_store_fault c.in-Err.ensures.end)
    (c.in-Err.ensures.does number (with_agent c.args.agent.now s)))

pub returns-clause-does : goal.returns-clause-does
returns-clause-does g c = λ number.
    let disk = g.D.Disk.state c.args.disk.now in
    let f = λ (s : Stage). with_agent c.args.agent.now (with_held (held_view number c.args.held.now) (with_folder (g.F.Folder.state c.args.folder.now) (with_clock (g.C.Clock.state c.args.clock.now) s))) in
    let m = λ (s : Stage). with_agent c.args.agent.now (with_held (held_view number c.watch_trial.new.held) (with_folder (g.F.Folder.state c.watch_trial.new.folder) (with_clock (g.C.Clock.state c.watch_trial.new.clock) s))) in
    let h = λ (s : Stage). with_agent c.keep_said-kept.new.agent (with_held (held_view number c.keep_said-kept.new.held) (with_folder (g.F.Folder.state c.keep_said-kept.new.folder) (with_clock (g.C.Clock.state c.watch_trial.new.clock) s))) in
    follow (WatchesTrial c.args.watch.now) (λ said. KeepsUnless (refusal said) (as_offer c.args.trial.tried c.args.hash.now)) disk disk (g.D.Disk.state c.keep_said-kept.new.disk)
    f m h c.in-Ok.said c.keep_said-kept.result (λ saves s. refl) (λ saves s. refl)
    (λ s. run_beside (WatchesTrial c.args.watch.now) disk (f s) (m s) (Ok c.in-Ok.said) c.requires.fits refl refl refl (c.in-Ok.ensures.does number (with_agent c.args.agent.now s)))
    (λ s. c.keep_said-kept.ensures.does number (with_clock (g.C.Clock.state c.watch_trial.new.clock) s))
