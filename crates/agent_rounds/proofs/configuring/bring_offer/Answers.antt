use Rattle.std.proofs.Common.{Ok, Err, ap, refl, subst}
use Rattle.plain_values.specs.declared.files.AgentConfigMap.{AgentConfigMap}
use Rattle.agent_config.specs.Config.{as_offer}
use Rattle.agent_rounds.specs.declared.ends.AgentEnd.TheVariants.{NoMemory}
use Rattle.agent_rounds.specs.Moments.{RunsPart, held_view, is_store_fault, with_agent, with_clock, with_folder, with_held}
use Rattle.agent_rounds.specs.Replies.{AppliesFiles, Brings, ConfigEnds, unsettled}
use Rattle.agent_rounds.specs.Stages.{Stage}
use Rattle.agent_rounds.proofs.ConfigLemmas.{wanting_applies}
use Rattle.agent_rounds.proofs.FollowLemmas.{follow, follow_ends}
use Rattle.agent_rounds.proofs.RunLemmas.{run_beside}
use Rattle.agent_rounds.proofs.configuring.bring_offer.Goals as goal

pub returns-in-Err-clause-does : goal.returns-in-Err-clause-does
returns-in-Err-clause-does g c = λ number.
    let f = λ (s : Stage). with_agent c.args.agent.now (with_held (held_view number c.args.held.now) (with_folder (g.F.Folder.state c.args.folder.now) (with_clock (g.C.Clock.state c.args.clock.now) s))) in
    let h = λ (s : Stage). with_agent c.args.agent.now (with_held (unsettled (held_view number c.args.held.now)) (with_folder (g.F.Folder.state c.args.folder.now) (with_clock (g.C.Clock.state c.args.clock.now) s))) in
    follow_ends (AppliesFiles (as_offer c.args.files c.args.hash.now)) (λ outcome. ConfigEnds c.args.watch.now (as_offer c.args.files c.args.hash.now) outcome) (g.D.Disk.state c.args.disk.now) (g.D.Disk.state c.args.disk.now) f h NoMemory
    (λ s. run_beside (AppliesFiles (as_offer c.args.files c.args.hash.now)) (g.D.Disk.state c.args.disk.now) (f s) (h s) (Err NoMemory) c.requires.fits refl refl refl (wanting_applies c.in-Err.field-0 (as_offer c.args.files c.args.hash.now) (f s)))

pub returns-in-Err-apply_files-clause-does : goal.returns-in-Err-apply_files-clause-does
returns-in-Err-apply_files-clause-does g c = λ number s.
    let f = λ (s : Stage). with_agent c.args.agent.now (with_held (held_view number c.args.held.now) (with_folder (g.F.Folder.state c.args.folder.now) (with_clock (g.C.Clock.state c.args.clock.now) s))) in
    let h = λ (s : Stage). with_agent c.args.agent.now (with_held (held_view number c.apply_files.new.held) (with_folder (g.F.Folder.state c.apply_files.new.folder) (with_clock (g.C.Clock.state c.args.clock.now) s))) in
    subst (λ (files : AgentConfigMap). RunsPart (Brings c.args.watch.now (as_offer files c.args.hash.now)) (g.D.Disk.state c.args.disk.now) (g.D.Disk.state c.args.disk.now) (f s) (h s) (Err c.in-Err-apply_files.end)) c.in-Ok.ensures.tried
    (follow_ends (AppliesFiles (as_offer c.in-Ok.trial.tried c.args.hash.now)) (λ outcome. ConfigEnds c.args.watch.now (as_offer c.in-Ok.trial.tried c.args.hash.now) outcome) (g.D.Disk.state c.args.disk.now) (g.D.Disk.state c.args.disk.now) f h c.in-Err-apply_files.end
    (λ s. run_beside (AppliesFiles (as_offer c.in-Ok.trial.tried c.args.hash.now)) (g.D.Disk.state c.args.disk.now) (f s) (h s) (Err c.in-Err-apply_files.end) c.requires.fits refl refl (ap is_store_fault c.in-Err-apply_files.ensures.end)
    (c.in-Err-apply_files.ensures.does c.args.hash.now number (with_agent c.args.agent.now (with_clock (g.C.Clock.state c.args.clock.now) s)))) s)

pub returns-clause-does : goal.returns-clause-does
returns-clause-does g c = λ number s.
    let f = λ (s : Stage). with_agent c.args.agent.now (with_held (held_view number c.args.held.now) (with_folder (g.F.Folder.state c.args.folder.now) (with_clock (g.C.Clock.state c.args.clock.now) s))) in
    let m = λ (s : Stage). with_agent c.args.agent.now (with_held (held_view number c.apply_files.new.held) (with_folder (g.F.Folder.state c.apply_files.new.folder) (with_clock (g.C.Clock.state c.args.clock.now) s))) in
    let h = λ (s : Stage). with_agent c.keep_outcome-kept.new.agent (with_held (held_view number c.keep_outcome-kept.new.held) (with_folder (g.F.Folder.state c.keep_outcome-kept.new.folder) (with_clock (g.C.Clock.state c.keep_outcome-kept.new.clock) s))) in
    subst (λ (files : AgentConfigMap). RunsPart (Brings c.args.watch.now (as_offer files c.args.hash.now)) (g.D.Disk.state c.args.disk.now) (g.D.Disk.state c.keep_outcome-kept.new.disk) (f s) (h s) c.keep_outcome-kept.result) c.in-Ok.ensures.tried
    (follow (AppliesFiles (as_offer c.in-Ok.trial.tried c.args.hash.now)) (λ outcome. ConfigEnds c.args.watch.now (as_offer c.in-Ok.trial.tried c.args.hash.now) outcome) (g.D.Disk.state c.args.disk.now) (g.D.Disk.state c.args.disk.now) (g.D.Disk.state c.keep_outcome-kept.new.disk)
    f m h c.in-Ok-apply_files.outcome c.keep_outcome-kept.result (λ saves s. refl) (λ saves s. refl)
    (λ s. run_beside (AppliesFiles (as_offer c.in-Ok.trial.tried c.args.hash.now)) (g.D.Disk.state c.args.disk.now) (f s) (m s) (Ok c.in-Ok-apply_files.outcome) c.requires.fits refl refl refl (c.in-Ok-apply_files.ensures.does c.args.hash.now number (with_agent c.args.agent.now (with_clock (g.C.Clock.state c.args.clock.now) s))))
    (λ s. c.keep_outcome-kept.ensures.does number s) s)
