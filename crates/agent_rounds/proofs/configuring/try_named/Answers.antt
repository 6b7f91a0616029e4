use Rattle.std.proofs.Common.{Bool, true, false, Ok, Err, ap, refl, subst}
use Rattle.agent_config.specs.Config.{as_offer}
use Rattle.agent_rounds.specs.Moments.{held_view, is_store_fault, with_agent, with_clock, with_folder, with_held}
use Rattle.agent_rounds.specs.Stages.{Stage}
use Rattle.agent_rounds.specs.Proving.{NamesTrial}
use Rattle.agent_rounds.specs.Replies.{TriesNamed}
use Rattle.agent_rounds.proofs.FollowLemmas.{follow, follow_ends}
use Rattle.agent_rounds.proofs.RunLemmas.{run_beside}
use Rattle.agent_rounds.proofs.configuring.try_named.Goals as goal

pub returns-in-Ok-true-clause-does : goal.returns-in-Ok-true-clause-does
returns-in-Ok-true-clause-does g c = λ number.
    let f = λ (s : Stage). with_agent c.args.agent.now (with_held (held_view number c.args.held.now) (with_folder (g.F.Folder.state c.args.folder.now) (with_clock (g.C.Clock.state c.args.clock.now) s))) in
    let m = λ (s : Stage). with_agent c.args.agent.now (with_held (held_view number c.args.held.now) (with_folder (g.F.Folder.state c.write_name.new.folder) (with_clock (g.C.Clock.state c.args.clock.now) s))) in
    let h = λ (s : Stage). with_agent c.try_offer.new.agent (with_held (held_view number c.try_offer.new.held) (with_folder (g.F.Folder.state c.try_offer.new.folder) (with_clock (g.C.Clock.state c.try_offer.new.clock) s))) in
    follow (NamesTrial c.args.watch.name) (λ named. TriesNamed c.args.watch (as_offer c.args.files c.args.hash.now) named) (g.D.Disk.state c.args.disk.now) (g.D.Disk.state c.args.disk.now) (g.D.Disk.state c.try_offer.new.disk)
    f m h true c.try_offer.result (λ saves s. refl) (λ saves s. refl)
    (λ s. run_beside (NamesTrial c.args.watch.name) (g.D.Disk.state c.args.disk.now) (f s) (m s) (Ok true) c.requires.fits refl refl refl
    (subst (λ (named : Bool). NamesTrial c.args.watch.name (f s) (m s) (Ok named)) c.in-Ok-true.field-0-test (c.in-Ok-true.ensures.names (with_agent c.args.agent.now (with_held (held_view number c.args.held.now) (with_clock (g.C.Clock.state c.args.clock.now) s))))))
    (λ s. c.try_offer.ensures.does number s)

pub returns-in-Ok-false-clause-does : goal.returns-in-Ok-false-clause-does
returns-in-Ok-false-clause-does g c = λ number.
    let f = λ (s : Stage). with_agent c.args.agent.now (with_held (held_view number c.args.held.now) (with_folder (g.F.Folder.state c.args.folder.now) (with_clock (g.C.Clock.state c.args.clock.now) s))) in
    let m = λ (s : Stage). with_agent c.args.agent.now (with_held (held_view number c.args.held.now) (with_folder (g.F.Folder.state c.write_name.new.folder) (with_clock (g.C.Clock.state c.args.clock.now) s))) in
    let h = λ (s : Stage). with_agent c.keep_failure.new.agent (with_held (held_view number c.args.held.now) (with_folder (g.F.Folder.state c.write_name.new.folder) (with_clock (g.C.Clock.state c.args.clock.now) s))) in
    follow (NamesTrial c.args.watch.name) (λ named. TriesNamed c.args.watch (as_offer c.args.files c.args.hash.now) named) (g.D.Disk.state c.args.disk.now) (g.D.Disk.state c.args.disk.now) (g.D.Disk.state c.keep_failure.new.disk)
    f m h false c.keep_failure.result (λ saves s. refl) (λ saves s. refl)
    (λ s. run_beside (NamesTrial c.args.watch.name) (g.D.Disk.state c.args.disk.now) (f s) (m s) (Ok false) c.requires.fits refl refl refl
    (subst (λ (named : Bool). NamesTrial c.args.watch.name (f s) (m s) (Ok named)) c.in-Ok-false.field-0-test (c.in-Ok-false.ensures.names (with_agent c.args.agent.now (with_held (held_view number c.args.held.now) (with_clock (g.C.Clock.state c.args.clock.now) s))))))
    (λ s. c.keep_failure.ensures.does (with_held (held_view number c.args.held.now) (with_folder (g.F.Folder.state c.write_name.new.folder) (with_clock (g.C.Clock.state c.args.clock.now) s))))

pub returns-in-Err-clause-does : goal.returns-in-Err-clause-does
returns-in-Err-clause-does g c = λ number.
    let f = λ (s : Stage). with_agent c.args.agent.now (with_held (held_view number c.args.held.now) (with_folder (g.F.Folder.state c.args.folder.now) (with_clock (g.C.Clock.state c.args.clock.now) s))) in
    let h = λ (s : Stage). with_agent c.args.agent.now (with_held (held_view number c.args.held.now) (with_folder (g.F.Folder.state c.write_name.new.folder) (with_clock (g.C.Clock.state c.args.clock.now) s))) in
    follow_ends (NamesTrial c.args.watch.name) (λ named. TriesNamed c.args.watch (as_offer c.args.files c.args.hash.now) named) (g.D.Disk.state c.args.disk.now) (g.D.Disk.state c.args.disk.now) f h c.in-Err.end
    (λ s. run_beside (NamesTrial c.args.watch.name) (g.D.Disk.state c.args.disk.now) (f s) (h s) (Err c.in-Err.end) c.requires.fits refl refl (ap is_store_fault c.in-Err.ensures.end) (c.in-Err.ensures.names (with_agent c.args.agent.now (with_held (held_view number c.args.held.now) (with_clock (g.C.Clock.state c.args.clock.now) s)))))
