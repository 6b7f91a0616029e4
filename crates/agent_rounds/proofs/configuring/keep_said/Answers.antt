use Rattle.std.proofs.Common.{sym, subst}
use Rattle.agent_config.specs.declared.word.Said.{Said}
use Rattle.agent_config.specs.Config.{as_offer}
use Rattle.agent_rounds.specs.Moments.{RunsPart, held_view, with_agent, with_folder, with_held}
use Rattle.agent_rounds.specs.Proving.{refusal}
use Rattle.agent_rounds.specs.Replies.{KeepsUnless}
use Rattle.agent_rounds.proofs.configuring.keep_said.Goals as goal

pub returns-in-Taken-clause-does : goal.returns-in-Taken-clause-does
returns-in-Taken-clause-does g c = λ number s.
    let run = c.keep_files.ensures.does number s in
    subst (λ (said : Said). RunsPart (KeepsUnless (refusal said) (as_offer c.args.trial.tried c.args.hash.now)) (g.D.Disk.state c.args.disk.now) (g.D.Disk.state c.keep_files.new.disk)
    (with_agent c.args.agent.now (with_held (held_view number c.args.held.now) (with_folder (g.F.Folder.state c.args.folder.now) s)))
    (with_agent c.keep_files.new.agent (with_held (held_view number c.keep_files.new.held) (with_folder (g.F.Folder.state c.keep_files.new.folder) s))) c.keep_files.result) (sym c.in-Taken.is)
    (record { saves = run.saves; does = run.does; images = run.images })

pub returns-in-Nothing-clause-does : goal.returns-in-Nothing-clause-does
returns-in-Nothing-clause-does g c = λ number s.
    let run = c.fail_back.ensures.does number s in
    subst (λ (said : Said). RunsPart (KeepsUnless (refusal said) (as_offer c.args.trial.tried c.args.hash.now)) (g.D.Disk.state c.args.disk.now) (g.D.Disk.state c.fail_back.new.disk)
    (with_agent c.args.agent.now (with_held (held_view number c.args.held.now) (with_folder (g.F.Folder.state c.args.folder.now) s)))
    (with_agent c.fail_back.new.agent (with_held (held_view number c.fail_back.new.held) (with_folder (g.F.Folder.state c.fail_back.new.folder) s))) c.fail_back.result) (sym c.in-Nothing.is)
    (record { saves = run.saves; does = run.does; images = run.images })

pub returns-in-Refused-clause-does : goal.returns-in-Refused-clause-does
returns-in-Refused-clause-does g c = λ number s.
    let run = c.fail_refused.ensures.does number s in
    subst (λ (said : Said). RunsPart (KeepsUnless (refusal said) (as_offer c.args.trial.tried c.args.hash.now)) (g.D.Disk.state c.args.disk.now) (g.D.Disk.state c.fail_refused.new.disk)
    (with_agent c.args.agent.now (with_held (held_view number c.args.held.now) (with_folder (g.F.Folder.state c.args.folder.now) s)))
    (with_agent c.fail_refused.new.agent (with_held (held_view number c.fail_refused.new.held) (with_folder (g.F.Folder.state c.fail_refused.new.folder) s))) c.fail_refused.result) (sym c.in-Refused.is)
    (record { saves = run.saves; does = run.does; images = run.images })
