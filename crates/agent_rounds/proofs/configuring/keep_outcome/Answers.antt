use Rattle.std.proofs.Common.{sym, subst}
use Rattle.agent_config.specs.declared.Outcome.{Outcome}
use Rattle.agent_config.specs.Config.{as_offer}
use Rattle.agent_rounds.specs.Moments.{RunsPart, held_view, with_agent, with_clock, with_folder, with_held}
use Rattle.agent_rounds.specs.Replies.{ConfigEnds}
use Rattle.agent_rounds.proofs.configuring.keep_outcome.Goals as goal

pub returns-in-BadName-clause-does : goal.returns-in-BadName-clause-does
returns-in-BadName-clause-does g c = λ number s.
    subst (λ (outcome : Outcome). RunsPart (ConfigEnds c.args.watch.now (as_offer c.args.trial.tried c.args.hash.now) outcome) (g.D.Disk.state c.args.disk.now) (g.D.Disk.state c.keep_failure.new.disk)
    (with_agent c.args.agent.now (with_held (held_view number c.args.held.now) (with_folder (g.F.Folder.state c.args.folder.now) (with_clock (g.C.Clock.state c.args.clock.now) s))))
    (with_agent c.keep_failure.new.agent (with_held (held_view number c.args.held.now) (with_folder (g.F.Folder.state c.args.folder.now) (with_clock (g.C.Clock.state c.args.clock.now) s)))) c.keep_failure.result) (sym c.in-BadName.is)
    (c.keep_failure.ensures.does (with_held (held_view number c.args.held.now) (with_folder (g.F.Folder.state c.args.folder.now) (with_clock (g.C.Clock.state c.args.clock.now) s))))

pub returns-in-FolderFault-clause-does : goal.returns-in-FolderFault-clause-does
returns-in-FolderFault-clause-does g c = λ number s.
    subst (λ (outcome : Outcome). RunsPart (ConfigEnds c.args.watch.now (as_offer c.args.trial.tried c.args.hash.now) outcome) (g.D.Disk.state c.args.disk.now) (g.D.Disk.state c.keep_failure-in-FolderFault.new.disk)
    (with_agent c.args.agent.now (with_held (held_view number c.args.held.now) (with_folder (g.F.Folder.state c.args.folder.now) (with_clock (g.C.Clock.state c.args.clock.now) s))))
    (with_agent c.keep_failure-in-FolderFault.new.agent (with_held (held_view number c.args.held.now) (with_folder (g.F.Folder.state c.args.folder.now) (with_clock (g.C.Clock.state c.args.clock.now) s)))) c.keep_failure-in-FolderFault.result) (sym c.in-FolderFault.is)
    (c.keep_failure-in-FolderFault.ensures.does (with_held (held_view number c.args.held.now) (with_folder (g.F.Folder.state c.args.folder.now) (with_clock (g.C.Clock.state c.args.clock.now) s))))

pub returns-in-Applied-clause-does : goal.returns-in-Applied-clause-does
returns-in-Applied-clause-does g c = λ number s.
    let run = c.keep_proved.ensures.does number s in
    subst (λ (outcome : Outcome). RunsPart (ConfigEnds c.args.watch.now (as_offer c.args.trial.tried c.args.hash.now) outcome) (g.D.Disk.state c.args.disk.now) (g.D.Disk.state c.keep_proved.new.disk)
    (with_agent c.args.agent.now (with_held (held_view number c.args.held.now) (with_folder (g.F.Folder.state c.args.folder.now) (with_clock (g.C.Clock.state c.args.clock.now) s))))
    (with_agent c.keep_proved.new.agent (with_held (held_view number c.keep_proved.new.held) (with_folder (g.F.Folder.state c.keep_proved.new.folder) (with_clock (g.C.Clock.state c.keep_proved.new.clock) s)))) c.keep_proved.result) (sym c.in-Applied.is)
    (record { saves = run.saves; does = run.does; images = run.images })
