use Rattle.std.proofs.Common.{◌≡◌, ◌∙◌, Option, Ok, Err, refl, sym, ap, subst}
use Rattle.message_values.specs.declared.state.Settings.{Settings}
use Rattle.agent_rules.specs.declared.saved.Saved.{Saved}
use Rattle.message_handlers.specs.Asking.{MayAnswer}
use Rattle.agent_rounds.specs.Moments.{is_store_fault, with_agent, with_dialer, with_folder}
use Rattle.agent_rounds.specs.Replies.{BeginsTrial, Handles, Installs}
use Rattle.agent_rounds.specs.Stages.{Stage}
use Rattle.agent_rounds.specs.Status.{pause_after}
use Rattle.agent_rounds.proofs.DealLemmas.{after_message, after_packages, begun, fits_on, handled}
use Rattle.agent_rounds.proofs.FollowLemmas.{follow, follow_ends}
use Rattle.agent_rounds.proofs.RunLemmas.{run_beside}
use Rattle.agent_rounds.proofs.dealing.deal_with_rest.Goals as goal

pub returns-in-Err-clause-does : goal.returns-in-Err-clause-does
returns-in-Err-clause-does g c =
    let may = MayAnswer (λ b. (goal.Handler-dyn g b).answers b.1) c.args.handlers.now in
    let next = c.args.next.now in
    let old = g.D.Disk.state c.args.disk.now in
    let new = g.D.Disk.state c.install.new.disk in
    let folder = g.F.Folder.state c.args.folder.now in
    let folder1 = g.F.Folder.state c.install.new.folder in
    let dialer = g.G.Dialer.state c.args.dialer.now in
    let dialer1 = g.G.Dialer.state c.install.new.dialer in
    let f = λ (s : Stage). with_agent c.args.agent.now (with_folder folder (with_dialer dialer s)) in
    let m = λ (s : Stage). with_agent c.install.new.agent (with_folder folder1 (with_dialer dialer1 s)) in
    follow_ends (Installs next.packages) (λ _. after_packages may next) old new f m c.in-Err.end (λ s. c.in-Err.ensures.does s)

pub returns-in-Err-handle-clause-does : goal.returns-in-Err-handle-clause-does
returns-in-Err-handle-clause-does g c =
    let may = MayAnswer (λ b. (goal.Handler-dyn g b).answers b.1) c.args.handlers.now in
    let next = c.args.next.now in
    let old = g.D.Disk.state c.args.disk.now in
    let new = g.D.Disk.state c.install.new.disk in
    let folder = g.F.Folder.state c.args.folder.now in
    let folder1 = g.F.Folder.state c.install.new.folder in
    let dialer = g.G.Dialer.state c.args.dialer.now in
    let dialer1 = g.G.Dialer.state c.install.new.dialer in
    let f = λ (s : Stage). with_agent c.args.agent.now (with_folder folder (with_dialer dialer s)) in
    let m = λ (s : Stage). with_agent c.install.new.agent (with_folder folder1 (with_dialer dialer1 s)) in
    let h = λ (s : Stage). with_agent c.handle.new.agent (with_folder folder1 (with_dialer dialer1 s)) in
    follow (Installs next.packages) (λ _. after_packages may next) old new new f m h tt (Err c.in-Err-handle.end) (λ saves s. refl) (λ saves s. refl) (λ s. c.in-Ok.ensures.does s)
    (follow_ends (Handles may next.message) (λ _. after_message may next) new new m h c.in-Err-handle.end
    (λ s. run_beside (Handles may next.message) new (m s) (h s) (Err c.in-Err-handle.end)
    c.in-Ok.ensures.fits c.handle.ensures.store c.handle.ensures.part (ap is_store_fault c.in-Err-handle.ensures.end)
    (c.in-Err-handle.ensures.does (with_folder folder1 (with_dialer dialer1 s)))))

pub returns-clause-does : goal.returns-clause-does
returns-clause-does g c =
    let may = MayAnswer (λ b. (goal.Handler-dyn g b).answers b.1) c.args.handlers.now in
    let next = c.args.next.now in
    let old = g.D.Disk.state c.args.disk.now in
    let new = g.D.Disk.state c.install.new.disk in
    let folder = g.F.Folder.state c.args.folder.now in
    let folder1 = g.F.Folder.state c.install.new.folder in
    let dialer = g.G.Dialer.state c.args.dialer.now in
    let dialer1 = g.G.Dialer.state c.install.new.dialer in
    let f = λ (s : Stage). with_agent c.args.agent.now (with_folder folder (with_dialer dialer s)) in
    let m = λ (s : Stage). with_agent c.install.new.agent (with_folder folder1 (with_dialer dialer1 s)) in
    let h = λ (s : Stage). with_agent c.begin_trial.new.agent (with_folder folder1 (with_dialer dialer1 s)) in
    let pause = c.pause_after-pause.result in
    let interval : c.saved.result.now ≡ c.begin_trial.new.agent.half.saved = c.saved.ensures.saved ∙ sym c.begin_trial.ensures.saved in
    let is_pause : pause ≡ pause_after next c.begin_trial.new.agent.half.saved.settings.interval =
    c.pause_after-pause.ensures.pause ∙ ap (λ (saved : Saved). pause_after next saved.settings.interval) interval in
    let begins = λ (s : Stage). subst (λ (settings : Option Settings). BeginsTrial settings (with_agent c.handle.new.agent s) (with_agent c.begin_trial.new.agent s) (Ok tt)) c.take-connection.ensures.value (c.begin_trial.ensures.does s) in
    follow (Installs next.packages) (λ _. after_packages may next) old new new f m h tt (Ok pause) (λ saves s. refl) (λ saves s. refl) (λ s. c.in-Ok.ensures.does s)
    (λ s. handled may next new c.install.new.agent c.handle.new.agent c.begin_trial.new.agent s.held folder1 dialer1 (Ok pause)
    c.in-Ok.ensures.fits c.handle.ensures.store c.handle.ensures.part (λ s. c.in-Ok-handle.ensures.does s)
    (begun may next new c.handle.new.agent c.begin_trial.new.agent s.held folder1 dialer1 pause
    (fits_on new c.install.new.agent c.handle.new.agent c.in-Ok.ensures.fits c.handle.ensures.store c.handle.ensures.part)
    c.begin_trial.ensures.store c.begin_trial.ensures.part is_pause begins) s)
