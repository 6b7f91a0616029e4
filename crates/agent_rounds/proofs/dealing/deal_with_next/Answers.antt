use Rattle.std.proofs.Common.{Option, Ok, Err, refl, subst}
use Rattle.message_values.specs.declared.config.AgentRemoteConfig.{AgentRemoteConfig}
use Rattle.message_handlers.specs.Asking.{MayAnswer}
use Rattle.agent_rounds.specs.Moments.{RunsPart, held_view, with_clock, with_dialer, with_folder, with_held}
use Rattle.agent_rounds.specs.Replies.{Configures}
use Rattle.agent_rounds.proofs.DealLemmas.{after_config, after_trial, at_clock}
use Rattle.agent_rounds.proofs.FollowLemmas.{follow, follow_ends}
use Rattle.agent_rounds.proofs.TrialLemmas.{EndsTrial}
use Rattle.agent_rounds.proofs.dealing.deal_with_next.Goals as goal

pub returns-in-Err-clause-does : goal.returns-in-Err-clause-does
returns-in-Err-clause-does g c =
    let may = MayAnswer (λ b. (goal.Handler-dyn g b).answers b.1) c.args.handlers.now in
    let next = c.args.next.now in
    let old = g.D.Disk.state c.args.disk.now in
    let mid = g.D.Disk.state c.end_trial.new.disk in
    let held = held_view g.G.Dialer.number c.args.held.now in
    let folder = g.F.Folder.state c.args.folder.now in
    let dialer = g.G.Dialer.state c.args.dialer.now in
    let clock = g.C.Clock.state c.args.clock.now in
    follow_ends EndsTrial (λ _. after_trial may next) old mid (at_clock c.args.agent.now held folder dialer clock) (at_clock c.end_trial.new.agent held folder dialer clock) c.in-Err.end
    (λ s. c.in-Err.ensures.does (with_held held (with_folder folder (with_dialer dialer (with_clock clock s)))))

pub returns-in-Err-configure-clause-does : goal.returns-in-Err-configure-clause-does
returns-in-Err-configure-clause-does g c =
    let may = MayAnswer (λ b. (goal.Handler-dyn g b).answers b.1) c.args.handlers.now in
    let next = c.args.next.now in
    let old = g.D.Disk.state c.args.disk.now in
    let mid = g.D.Disk.state c.end_trial.new.disk in
    let held = held_view g.G.Dialer.number c.args.held.now in
    let folder = g.F.Folder.state c.args.folder.now in
    let dialer = g.G.Dialer.state c.args.dialer.now in
    let clock = g.C.Clock.state c.args.clock.now in
    let new = g.D.Disk.state c.configure.new.disk in
    let held1 = held_view g.G.Dialer.number c.configure.new.held in
    let folder1 = g.F.Folder.state c.configure.new.folder in
    let clock1 = g.C.Clock.state c.configure.new.clock in
    follow EndsTrial (λ _. after_trial may next) old mid new
    (at_clock c.args.agent.now held folder dialer clock) (at_clock c.end_trial.new.agent held folder dialer clock) (at_clock c.configure.new.agent held1 folder1 dialer clock1) tt (Err c.in-Err-configure.end) (λ saves s. refl) (λ saves s. refl)
    (λ s. c.in-Ok.ensures.does (with_held held (with_folder folder (with_dialer dialer (with_clock clock s)))))
    (follow_ends (Configures next.config) (λ _. after_config may next) mid new
    (at_clock c.end_trial.new.agent held folder dialer clock) (at_clock c.configure.new.agent held1 folder1 dialer clock1) c.in-Err-configure.end
    (λ s. subst (λ (offer : Option AgentRemoteConfig). RunsPart (Configures offer) mid new (at_clock c.end_trial.new.agent held folder dialer clock s) (at_clock c.configure.new.agent held1 folder1 dialer clock1 s) (Err c.in-Err-configure.end))
    c.take-config.ensures.value (c.in-Err-configure.ensures.does g.G.Dialer.number (with_dialer dialer s))))

pub returns-clause-does : goal.returns-clause-does
returns-clause-does g c =
    let may = MayAnswer (λ b. (goal.Handler-dyn g b).answers b.1) c.args.handlers.now in
    let next = c.args.next.now in
    let old = g.D.Disk.state c.args.disk.now in
    let mid = g.D.Disk.state c.end_trial.new.disk in
    let held = held_view g.G.Dialer.number c.args.held.now in
    let folder = g.F.Folder.state c.args.folder.now in
    let dialer = g.G.Dialer.state c.args.dialer.now in
    let clock = g.C.Clock.state c.args.clock.now in
    let new = g.D.Disk.state c.configure.new.disk in
    let last = g.D.Disk.state c.deal_with_rest.new.disk in
    let held1 = held_view g.G.Dialer.number c.configure.new.held in
    let folder1 = g.F.Folder.state c.configure.new.folder in
    let clock1 = g.C.Clock.state c.configure.new.clock in
    let folder2 = g.F.Folder.state c.deal_with_rest.new.folder in
    let dialer1 = g.G.Dialer.state c.deal_with_rest.new.dialer in
    follow EndsTrial (λ _. after_trial may next) old mid last
    (at_clock c.args.agent.now held folder dialer clock) (at_clock c.end_trial.new.agent held folder dialer clock) (at_clock c.deal_with_rest.new.agent held1 folder2 dialer1 clock1) tt c.deal_with_rest.result (λ saves s. refl) (λ saves s. refl)
    (λ s. c.in-Ok.ensures.does (with_held held (with_folder folder (with_dialer dialer (with_clock clock s)))))
    (follow (Configures next.config) (λ _. after_config may next) mid new last
    (at_clock c.end_trial.new.agent held folder dialer clock) (at_clock c.configure.new.agent held1 folder1 dialer clock1) (at_clock c.deal_with_rest.new.agent held1 folder2 dialer1 clock1) tt c.deal_with_rest.result (λ saves s. refl) (λ saves s. refl)
    (λ s. subst (λ (offer : Option AgentRemoteConfig). RunsPart (Configures offer) mid new (at_clock c.end_trial.new.agent held folder dialer clock s) (at_clock c.configure.new.agent held1 folder1 dialer clock1 s) (Ok tt))
    c.take-config.ensures.value (c.in-Ok-configure.ensures.does g.G.Dialer.number (with_dialer dialer s)))
    (λ s. c.deal_with_rest.ensures.does (with_held held1 (with_clock clock1 s))))
