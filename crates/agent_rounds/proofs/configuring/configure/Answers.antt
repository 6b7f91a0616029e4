use Rattle.std.proofs.Common.{Option, None, Ok, refl, sym, subst}
use Rattle.message_values.specs.declared.config.AgentRemoteConfig.{AgentRemoteConfig}
use Rattle.agent_rounds.specs.Moments.{RunsPart, held_view, with_agent, with_clock, with_folder, with_held}
use Rattle.agent_rounds.specs.Replies.{Configures}
use Rattle.agent_rounds.proofs.RunLemmas.{run_beside}
use Rattle.agent_rounds.proofs.configuring.configure.Goals as goal

pub returns-in-None-clause-does : goal.returns-in-None-clause-does
returns-in-None-clause-does g c = λ number s.
    let t = with_agent c.args.agent.now (with_held (held_view number c.args.held.now) (with_folder (g.F.Folder.state c.args.folder.now) (with_clock (g.C.Clock.state c.args.clock.now) s))) in
    subst (λ (offer : Option AgentRemoteConfig). RunsPart (Configures offer) (g.D.Disk.state c.args.disk.now) (g.D.Disk.state c.args.disk.now) t t (Ok tt)) (sym c.in-None.is)
    (run_beside (Configures None) (g.D.Disk.state c.args.disk.now) t t (Ok tt) c.requires.fits refl refl refl (refl, refl))
