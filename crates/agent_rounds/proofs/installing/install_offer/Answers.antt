use Rattle.std.proofs.Common.{Ok, Err, ap, refl}
use Rattle.agent_rules.specs.Keeping.{PackagesDone}
use Rattle.agent_rounds.specs.Moments.{is_store_fault, with_agent, with_dialer, with_folder}
use Rattle.agent_rounds.specs.Replies.{Syncs}
use Rattle.agent_rounds.specs.Stages.{MakesCall, Stage}
use Rattle.agent_rounds.proofs.FollowLemmas.{follow, follow_ends}
use Rattle.agent_rounds.proofs.RunLemmas.{run_beside}
use Rattle.agent_rounds.proofs.installing.install_offer.Goals as goal

pub returns-in-Err-clause-does : goal.returns-in-Err-clause-does
returns-in-Err-clause-does g c =
    let f = λ (s : Stage). with_agent c.args.agent.now (with_folder (g.F.Folder.state c.args.folder.now) (with_dialer (g.G.Dialer.state c.args.dialer.now) s)) in
    let h = λ (s : Stage). with_agent c.args.agent.now (with_folder (g.F.Folder.state c.sync_offer.new.folder) (with_dialer (g.G.Dialer.state c.sync_offer.new.dialer) s)) in
    follow_ends (Syncs c.args.offer.now) (λ statuses. MakesCall (PackagesDone statuses)) (g.D.Disk.state c.args.disk.now) (g.D.Disk.state c.args.disk.now) f h c.in-Err.end
    (λ s. run_beside (Syncs c.args.offer.now) (g.D.Disk.state c.args.disk.now) (f s) (h s) (Err c.in-Err.end) c.requires.fits refl refl (ap is_store_fault c.in-Err.ensures.end) (c.in-Err.ensures.does s))

pub returns-clause-does : goal.returns-clause-does
returns-clause-does g c =
    let f = λ (s : Stage). with_agent c.args.agent.now (with_folder (g.F.Folder.state c.args.folder.now) (with_dialer (g.G.Dialer.state c.args.dialer.now) s)) in
    let m = λ (s : Stage). with_agent c.args.agent.now (with_folder (g.F.Folder.state c.sync_offer.new.folder) (with_dialer (g.G.Dialer.state c.sync_offer.new.dialer) s)) in
    let h = λ (s : Stage). with_agent c.keep_statuses.new.agent (with_folder (g.F.Folder.state c.sync_offer.new.folder) (with_dialer (g.G.Dialer.state c.sync_offer.new.dialer) s)) in
    follow (Syncs c.args.offer.now) (λ statuses. MakesCall (PackagesDone statuses)) (g.D.Disk.state c.args.disk.now) (g.D.Disk.state c.args.disk.now) (g.D.Disk.state c.keep_statuses.new.disk)
    f m h c.in-Ok.statuses c.keep_statuses.result (λ saves s. refl) (λ saves s. refl)
    (λ s. run_beside (Syncs c.args.offer.now) (g.D.Disk.state c.args.disk.now) (f s) (m s) (Ok c.in-Ok.statuses) c.requires.fits refl refl refl (c.in-Ok.ensures.does s))
    (λ s. c.keep_statuses.ensures.does (with_folder (g.F.Folder.state c.sync_offer.new.folder) (with_dialer (g.G.Dialer.state c.sync_offer.new.dialer) s)))
