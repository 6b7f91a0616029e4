use Rattle.std.proofs.Common.{refl}
use Rattle.agent_rules.specs.Keeping.{fits}
use Rattle.agent_rules.specs.Offers.{applied_call}
use Rattle.agent_config.specs.Config.{as_offer}
use Rattle.agent_rounds.specs.Stages.{Stage}
use Rattle.agent_rounds.specs.Moments.{held_view, with_agent, with_folder, with_held}
use Rattle.agent_rounds.proofs.ConfigLemmas.{files_kept, files_large, files_refused, files_wanting}
use Rattle.agent_rounds.proofs.configuring.keep_files.Goals as goal

pub returns-in-Err-clause-does : goal.returns-in-Err-clause-does
returns-in-Err-clause-does g c = λ number s.
    files_wanting (fits c.args.agent.now.half (applied_call (as_offer c.args.trial.tried c.args.hash.now))) (as_offer c.args.trial.tried c.args.hash.now) (g.D.Disk.state c.args.disk.now) c.args.agent.now (held_view number c.args.held.now)
    (with_folder (g.F.Folder.state c.args.folder.now) s) c.requires.fits

pub returns-in-Ok-config_done-clause-does : goal.returns-in-Ok-config_done-clause-does
returns-in-Ok-config_done-clause-does g c = λ number s.
    files_kept (as_offer c.args.trial.tried c.args.hash.now) c.args.trial.tried c.in-Ok.status refl c.in-Ok.ensures (g.D.Disk.state c.args.disk.now) (g.D.Disk.state c.config_done.new.disk) (g.D.Disk.countdown c.args.disk.now) (g.D.Disk.countdown c.config_done.new.disk)
    c.args.agent.now c.config_done.new.self (held_view number c.args.held.now) (with_folder (g.F.Folder.state c.args.folder.now) s) c.requires.fits
    tt c.in-Ok-config_done.ensures.room c.in-Ok-config_done.ensures.kept c.in-Ok-config_done.ensures.one_save

pub returns-in-TooLarge-clause-does : goal.returns-in-TooLarge-clause-does
returns-in-TooLarge-clause-does g c = λ number s.
    files_large (as_offer c.args.trial.tried c.args.hash.now) c.args.trial.tried c.in-Ok.status refl c.in-Ok.ensures (g.D.Disk.state c.args.disk.now) (g.D.Disk.state c.config_done.new.disk) (g.D.Disk.countdown c.args.disk.now) (g.D.Disk.countdown c.config_done.new.disk)
    c.args.agent.now c.config_done.new.self (held_view number c.args.held.now) (with_folder (g.F.Folder.state c.args.folder.now) s) c.requires.fits (Unit {0}) c.in-Err-config_done.ensures.one_save.room
    (g.D.Disk.state c.fail_back.new.disk)
    (λ (u : Stage). with_agent c.fail_back.new.agent (with_held (held_view number c.fail_back.new.held) (with_folder (g.F.Folder.state c.fail_back.new.folder) u))) c.fail_back.result
    (rw c.in-TooLarge.is at c.in-Err-config_done.ensures.one_save) (rw c.in-TooLarge.is at c.in-Err-config_done.ensures.refused) (c.fail_back.ensures.does number s)

pub returns-in_default-clause-does : goal.returns-in_default-clause-does
returns-in_default-clause-does g c = λ number s.
    files_refused (as_offer c.args.trial.tried c.args.hash.now) c.args.trial.tried c.in-Ok.status refl c.in-Ok.ensures (g.D.Disk.state c.args.disk.now) (g.D.Disk.state c.config_done.new.disk) (g.D.Disk.countdown c.args.disk.now) (g.D.Disk.countdown c.config_done.new.disk)
    c.args.agent.now c.config_done.new.self (held_view number c.args.held.now) (with_folder (g.F.Folder.state c.args.folder.now) s) c.requires.fits (Unit {0}) c.in-Err-config_done.ensures.one_save.room
    c.in-Err-config_done.fail c.end_of.result c.end_of.ensures.end c.in_default.not-TooLarge c.in-Err-config_done.ensures.one_save c.in-Err-config_done.ensures.refused
