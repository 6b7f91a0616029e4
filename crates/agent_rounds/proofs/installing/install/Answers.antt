use Rattle.std.proofs.Common.{Option, None, Ok, refl, sym, subst}
use Rattle.message_values.specs.declared.packages.PackagesAvailable.{PackagesAvailable}
use Rattle.agent_rounds.specs.Moments.{RunsPart, with_agent, with_dialer, with_folder}
use Rattle.agent_rounds.specs.Replies.{Installs}
use Rattle.agent_rounds.proofs.RunLemmas.{run_beside}
use Rattle.agent_rounds.proofs.installing.install.Goals as goal

pub returns-in-Some-clause-does : goal.returns-in-Some-clause-does
returns-in-Some-clause-does g c = λ s.
    subst (λ (offer : Option PackagesAvailable). RunsPart (Installs offer) (g.D.Disk.state c.args.disk.now) (g.D.Disk.state c.install_offer.new.disk)
    (with_agent c.args.agent.now (with_folder (g.F.Folder.state c.args.folder.now) (with_dialer (g.G.Dialer.state c.args.dialer.now) s)))
    (with_agent c.install_offer.new.agent (with_folder (g.F.Folder.state c.install_offer.new.folder) (with_dialer (g.G.Dialer.state c.install_offer.new.dialer) s))) c.install_offer.result)
    (sym c.in-Some.is) (c.install_offer.ensures.does s)

pub returns-in-None-clause-does : goal.returns-in-None-clause-does
returns-in-None-clause-does g c = λ s.
    let t = with_agent c.args.agent.now (with_folder (g.F.Folder.state c.args.folder.now) (with_dialer (g.G.Dialer.state c.args.dialer.now) s)) in
    subst (λ (offer : Option PackagesAvailable). RunsPart (Installs offer) (g.D.Disk.state c.args.disk.now) (g.D.Disk.state c.args.disk.now) t t (Ok tt)) (sym c.in-None.is)
    (run_beside (Installs None) (g.D.Disk.state c.args.disk.now) t t (Ok tt) c.requires.fits refl refl refl (refl, refl))
