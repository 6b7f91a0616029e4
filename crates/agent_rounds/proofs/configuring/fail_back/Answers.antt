use Rattle.std.proofs.Common.{Ok, Err, ap, refl}
use Rattle.agent_rules.specs.Offers.{failed_call}
use Rattle.agent_config.specs.Config.{as_offer}
use Rattle.agent_rules.specs.Half.{no_config}
use Rattle.agent_rounds.specs.Moments.{held_view, is_store_fault, with_agent, with_folder, with_held}
use Rattle.agent_rounds.specs.Replies.{BringsBack}
use Rattle.agent_rounds.specs.Stages.{MakesCall, Stage}
use Rattle.agent_rounds.proofs.FollowLemmas.{follow, follow_ends}
use Rattle.agent_rounds.proofs.RunLemmas.{run_beside}
use Rattle.agent_rounds.proofs.configuring.fail_back.Goals as goal

pub returns-in-Err-clause-does : goal.returns-in-Err-clause-does
returns-in-Err-clause-does g c = λ number.
    let f = λ (s : Stage). with_agent c.args.agent.now (with_held (held_view number c.args.held.now) (with_folder (g.F.Folder.state c.args.folder.now) s)) in
    let h = λ (s : Stage). with_agent c.args.agent.now (with_held (held_view number c.bring_back.new.held) (with_folder (g.F.Folder.state c.bring_back.new.folder) s)) in
    follow_ends BringsBack (λ done. MakesCall (failed_call (as_offer no_config c.args.hash.now) c.args.reason.now)) (g.D.Disk.state c.args.disk.now) (g.D.Disk.state c.args.disk.now) f h c.in-Err.end
    (λ s. run_beside BringsBack (g.D.Disk.state c.args.disk.now) (f s) (h s) (Err c.in-Err.end) c.requires.fits refl refl (ap is_store_fault c.in-Err.ensures.end) (c.in-Err.ensures.does number (with_agent c.args.agent.now s)))

pub returns-clause-does : goal.returns-clause-does
returns-clause-does g c = λ number.
    let f = λ (s : Stage). with_agent c.args.agent.now (with_held (held_view number c.args.held.now) (with_folder (g.F.Folder.state c.args.folder.now) s)) in
    let m = λ (s : Stage). with_agent c.args.agent.now (with_held (held_view number c.bring_back.new.held) (with_folder (g.F.Folder.state c.bring_back.new.folder) s)) in
    let h = λ (s : Stage). with_agent c.keep_failure.new.agent (with_held (held_view number c.bring_back.new.held) (with_folder (g.F.Folder.state c.bring_back.new.folder) s)) in
    follow BringsBack (λ done. MakesCall (failed_call (as_offer no_config c.args.hash.now) c.args.reason.now)) (g.D.Disk.state c.args.disk.now) (g.D.Disk.state c.args.disk.now) (g.D.Disk.state c.keep_failure.new.disk)
    f m h tt c.keep_failure.result (λ saves s. refl) (λ saves s. refl)
    (λ s. run_beside BringsBack (g.D.Disk.state c.args.disk.now) (f s) (m s) (Ok tt) c.requires.fits refl refl refl (c.in-Ok.ensures.does number (with_agent c.args.agent.now s)))
    (λ s. c.keep_failure.ensures.does (with_held (held_view number c.bring_back.new.held) (with_folder (g.F.Folder.state c.bring_back.new.folder) s)))
