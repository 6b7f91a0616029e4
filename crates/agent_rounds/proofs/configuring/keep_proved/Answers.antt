use Rattle.std.proofs.Common.{Option, sym, subst}
use Rattle.agent_config.specs.Config.{as_offer}
use Rattle.agent_rounds.specs.declared.proving.Trial.{Trial}
use Rattle.agent_rounds.specs.Moments.{RunsPart, held_view, with_agent, with_clock, with_folder, with_held}
use Rattle.agent_rounds.specs.Replies.{KeepsProved}
use Rattle.agent_rounds.proofs.configuring.keep_proved.Goals as goal

pub returns-in-Some-clause-does : goal.returns-in-Some-clause-does
returns-in-Some-clause-does g c = λ number s.
    subst (λ (watch : Option Trial). RunsPart (KeepsProved watch (as_offer c.args.trial.tried c.args.hash.now)) (g.D.Disk.state c.args.disk.now) (g.D.Disk.state c.keep_watched.new.disk)
    (with_agent c.args.agent.now (with_held (held_view number c.args.held.now) (with_folder (g.F.Folder.state c.args.folder.now) (with_clock (g.C.Clock.state c.args.clock.now) s))))
    (with_agent c.keep_watched.new.agent (with_held (held_view number c.keep_watched.new.held) (with_folder (g.F.Folder.state c.keep_watched.new.folder) (with_clock (g.C.Clock.state c.keep_watched.new.clock) s)))) c.keep_watched.result)
    (sym c.in-Some.is) (c.keep_watched.ensures.does number s)

pub returns-in-None-clause-does : goal.returns-in-None-clause-does
returns-in-None-clause-does g c = λ number s.
    let run = c.keep_files.ensures.does number (with_clock (g.C.Clock.state c.args.clock.now) s) in
    subst (λ (watch : Option Trial). RunsPart (KeepsProved watch (as_offer c.args.trial.tried c.args.hash.now)) (g.D.Disk.state c.args.disk.now) (g.D.Disk.state c.keep_files.new.disk)
    (with_agent c.args.agent.now (with_held (held_view number c.args.held.now) (with_folder (g.F.Folder.state c.args.folder.now) (with_clock (g.C.Clock.state c.args.clock.now) s))))
    (with_agent c.keep_files.new.agent (with_held (held_view number c.keep_files.new.held) (with_folder (g.F.Folder.state c.keep_files.new.folder) (with_clock (g.C.Clock.state c.args.clock.now) s)))) c.keep_files.result)
    (sym c.in-None.is) (record { saves = run.saves; does = run.does; images = run.images })
