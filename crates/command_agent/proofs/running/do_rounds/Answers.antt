-- Rounds in which what comes unasked is heeded or not.
use Rattle.std.proofs.Common.{◌≡◌, ◌⊎◌, List, [], Bool, Err, refl, sym, subst}
use Rattle.message_values.specs.declared.custom.CustomCapabilities.{CustomCapabilities}
use Rattle.message_handlers.specs.Asking.{MayAnswer}
use Rattle.message_handlers.specs.Names.{IsOrdered, names_of}
use Rattle.agent_rules.specs.declared.saved.Saved.{Saved}
use Rattle.agent_rounds.specs.declared.ends.AgentEnd.TheVariants.{NumbersSpent, RoundsSpent, TooLarge}
use Rattle.agent_rounds.specs.Ends.{ReportSpent, ReportTooLarge, RoundsDoneBy, RunEndsBy}
use Rattle.agent_rounds.specs.Moments.{Leads, Moment, nothing_held, stage_at}
use Rattle.agent_rounds.specs.Rounds.{RoundsBy}
use Rattle.agent_rounds.specs.Status.{HeldView}
use Rattle.command_agent.specs.Running.{asking_of, waiting_of}
use Rattle.command_agent.proofs.RunLemmas.{leaves_config}
use Rattle.command_agent.proofs.running.do_rounds.Goals as goal

pub returns-then-push-clause-rounds : goal.returns-then-push-clause-rounds
returns-then-push-clause-rounds g c =
    let may = MayAnswer (λ b. (goal.Handler-dyn g b).answers b.1) c.args.handlers.now in
    let are = λ (names : CustomCapabilities). IsOrdered (names_of c.args.handlers.now) names.capabilities in
    let before : Moment = record {
      agent = c.args.agent.now;
      held = nothing_held c.args.options.now.prove;
      disk = g.D.Disk.state c.args.disk.now;
      folder = g.F.Folder.state c.args.folder.now;
      dialer = g.G.Dialer.state c.args.dialer.now;
      clock = g.C.Clock.state c.args.clock.now;
    } in
    let after : HeldView → Moment = λ held. record {
      agent = c.supervise_pushed.new.agent;
      held = held;
      disk = g.D.Disk.state c.supervise_pushed.new.disk;
      folder = g.F.Folder.state c.supervise_pushed.new.folder;
      dialer = g.G.Dialer.state c.supervise_pushed.new.dialer;
      clock = g.C.Clock.state c.supervise_pushed.new.clock;
    } in
    subst (λ (push : Bool). (held : HeldView) × Leads (RoundsBy (asking_of push) (waiting_of push) may are c.args.options.now.rounds 0) before (after held) c.supervise_pushed.result)
    (sym c.if-push.true) c.supervise_pushed.ensures.rounds

pub returns-then-push-clause-rounds_spent : goal.returns-then-push-clause-rounds_spent
returns-then-push-clause-rounds_spent g c =
    let may = MayAnswer (λ b. (goal.Handler-dyn g b).answers b.1) c.args.handlers.now in
    let are = λ (names : CustomCapabilities). IsOrdered (names_of c.args.handlers.now) names.capabilities in
    let before : Moment = record {
      agent = c.args.agent.now;
      held = nothing_held c.args.options.now.prove;
      disk = g.D.Disk.state c.args.disk.now;
      folder = g.F.Folder.state c.args.folder.now;
      dialer = g.G.Dialer.state c.args.dialer.now;
      clock = g.C.Clock.state c.args.clock.now;
    } in
    let after : HeldView → Moment = λ held. record {
      agent = c.supervise_pushed.new.agent;
      held = held;
      disk = g.D.Disk.state c.supervise_pushed.new.disk;
      folder = g.F.Folder.state c.supervise_pushed.new.folder;
      dialer = g.G.Dialer.state c.supervise_pushed.new.dialer;
      clock = g.C.Clock.state c.supervise_pushed.new.clock;
    } in
    subst (λ (push : Bool). c.supervise_pushed.result ≡ Err RoundsSpent
    → (held : HeldView) × (saves : List Saved) × RoundsDoneBy (asking_of push) (waiting_of push) may are c.args.options.now.rounds (stage_at before []) (stage_at (after held) saves))
    (sym c.if-push.true) c.supervise_pushed.ensures.rounds_spent

pub returns-then-push-clause-too_large : goal.returns-then-push-clause-too_large
returns-then-push-clause-too_large g c =
    let may = MayAnswer (λ b. (goal.Handler-dyn g b).answers b.1) c.args.handlers.now in
    let are = λ (names : CustomCapabilities). IsOrdered (names_of c.args.handlers.now) names.capabilities in
    let before : Moment = record {
      agent = c.args.agent.now;
      held = nothing_held c.args.options.now.prove;
      disk = g.D.Disk.state c.args.disk.now;
      folder = g.F.Folder.state c.args.folder.now;
      dialer = g.G.Dialer.state c.args.dialer.now;
      clock = g.C.Clock.state c.args.clock.now;
    } in
    let after : HeldView → Moment = λ held. record {
      agent = c.supervise_pushed.new.agent;
      held = held;
      disk = g.D.Disk.state c.supervise_pushed.new.disk;
      folder = g.F.Folder.state c.supervise_pushed.new.folder;
      dialer = g.G.Dialer.state c.supervise_pushed.new.dialer;
      clock = g.C.Clock.state c.supervise_pushed.new.clock;
    } in
    subst (λ (push : Bool). c.supervise_pushed.result ≡ Err TooLarge
    → ReportTooLarge c.supervise_pushed.new.agent ⊎ ((held : HeldView) × (saves : List Saved) × RunEndsBy (asking_of push) (waiting_of push) TooLarge may are c.args.options.now.rounds (stage_at before []) (stage_at (after held) saves)))
    (sym c.if-push.true) c.supervise_pushed.ensures.too_large

pub returns-then-push-clause-proved : goal.returns-then-push-clause-proved
returns-then-push-clause-proved g c = c.supervise_pushed.ensures.proved

pub returns-then-push-clause-configuration : goal.returns-then-push-clause-configuration
returns-then-push-clause-configuration g c = λ held.
    let may = MayAnswer (λ b. (goal.Handler-dyn g b).answers b.1) c.args.handlers.now in
    let are = λ (names : CustomCapabilities). IsOrdered (names_of c.args.handlers.now) names.capabilities in
    let before : Moment = record {
      agent = c.args.agent.now;
      held = nothing_held c.args.options.now.prove;
      disk = g.D.Disk.state c.args.disk.now;
      folder = g.F.Folder.state c.args.folder.now;
      dialer = g.G.Dialer.state c.args.dialer.now;
      clock = g.C.Clock.state c.args.clock.now;
    } in
    let after : Moment = record {
      agent = c.supervise_pushed.new.agent;
      held = held;
      disk = g.D.Disk.state c.supervise_pushed.new.disk;
      folder = g.F.Folder.state c.supervise_pushed.new.folder;
      dialer = g.G.Dialer.state c.supervise_pushed.new.dialer;
      clock = g.C.Clock.state c.supervise_pushed.new.clock;
    } in
    leaves_config may are c.configuration_stays.ensures.begins c.configuration_stays.ensures.rounds c.configuration_stays.ensures.pushed_rounds
    c.args.options.now.push c.args.options.now.rounds c.args.options.now.prove before after c.supervise_pushed.result refl

pub returns-then-push-clause-store_fault : goal.returns-then-push-clause-store_fault
returns-then-push-clause-store_fault g c = c.supervise_pushed.ensures.store_fault

pub returns-then-push-clause-folder_fault : goal.returns-then-push-clause-folder_fault
returns-then-push-clause-folder_fault g c = c.supervise_pushed.ensures.folder_fault

pub returns-then-push-clause-clock_fault : goal.returns-then-push-clause-clock_fault
returns-then-push-clause-clock_fault g c = c.supervise_pushed.ensures.clock_fault

pub returns-then-push-clause-numbers_spent : goal.returns-then-push-clause-numbers_spent
returns-then-push-clause-numbers_spent g c =
    let may = MayAnswer (λ b. (goal.Handler-dyn g b).answers b.1) c.args.handlers.now in
    let are = λ (names : CustomCapabilities). IsOrdered (names_of c.args.handlers.now) names.capabilities in
    let before : Moment = record {
      agent = c.args.agent.now;
      held = nothing_held c.args.options.now.prove;
      disk = g.D.Disk.state c.args.disk.now;
      folder = g.F.Folder.state c.args.folder.now;
      dialer = g.G.Dialer.state c.args.dialer.now;
      clock = g.C.Clock.state c.args.clock.now;
    } in
    let after : HeldView → Moment = λ held. record {
      agent = c.supervise_pushed.new.agent;
      held = held;
      disk = g.D.Disk.state c.supervise_pushed.new.disk;
      folder = g.F.Folder.state c.supervise_pushed.new.folder;
      dialer = g.G.Dialer.state c.supervise_pushed.new.dialer;
      clock = g.C.Clock.state c.supervise_pushed.new.clock;
    } in
    subst (λ (push : Bool). c.supervise_pushed.result ≡ Err NumbersSpent
    → ReportSpent c.supervise_pushed.new.agent ⊎ ((held : HeldView) × (saves : List Saved) × RunEndsBy (asking_of push) (waiting_of push) NumbersSpent may are c.args.options.now.rounds (stage_at before []) (stage_at (after held) saves)))
    (sym c.if-push.true) c.supervise_pushed.ensures.numbers_spent

pub returns-else-push-clause-rounds : goal.returns-else-push-clause-rounds
returns-else-push-clause-rounds g c =
    let may = MayAnswer (λ b. (goal.Handler-dyn g b).answers b.1) c.args.handlers.now in
    let are = λ (names : CustomCapabilities). IsOrdered (names_of c.args.handlers.now) names.capabilities in
    let before : Moment = record {
      agent = c.args.agent.now;
      held = nothing_held c.args.options.now.prove;
      disk = g.D.Disk.state c.args.disk.now;
      folder = g.F.Folder.state c.args.folder.now;
      dialer = g.G.Dialer.state c.args.dialer.now;
      clock = g.C.Clock.state c.args.clock.now;
    } in
    let after : HeldView → Moment = λ held. record {
      agent = c.supervise.new.agent;
      held = held;
      disk = g.D.Disk.state c.supervise.new.disk;
      folder = g.F.Folder.state c.supervise.new.folder;
      dialer = g.G.Dialer.state c.supervise.new.dialer;
      clock = g.C.Clock.state c.supervise.new.clock;
    } in
    subst (λ (push : Bool). (held : HeldView) × Leads (RoundsBy (asking_of push) (waiting_of push) may are c.args.options.now.rounds 0) before (after held) c.supervise.result)
    (sym c.if-push.false) c.supervise.ensures.rounds

pub returns-else-push-clause-rounds_spent : goal.returns-else-push-clause-rounds_spent
returns-else-push-clause-rounds_spent g c =
    let may = MayAnswer (λ b. (goal.Handler-dyn g b).answers b.1) c.args.handlers.now in
    let are = λ (names : CustomCapabilities). IsOrdered (names_of c.args.handlers.now) names.capabilities in
    let before : Moment = record {
      agent = c.args.agent.now;
      held = nothing_held c.args.options.now.prove;
      disk = g.D.Disk.state c.args.disk.now;
      folder = g.F.Folder.state c.args.folder.now;
      dialer = g.G.Dialer.state c.args.dialer.now;
      clock = g.C.Clock.state c.args.clock.now;
    } in
    let after : HeldView → Moment = λ held. record {
      agent = c.supervise.new.agent;
      held = held;
      disk = g.D.Disk.state c.supervise.new.disk;
      folder = g.F.Folder.state c.supervise.new.folder;
      dialer = g.G.Dialer.state c.supervise.new.dialer;
      clock = g.C.Clock.state c.supervise.new.clock;
    } in
    subst (λ (push : Bool). c.supervise.result ≡ Err RoundsSpent
    → (held : HeldView) × (saves : List Saved) × RoundsDoneBy (asking_of push) (waiting_of push) may are c.args.options.now.rounds (stage_at before []) (stage_at (after held) saves))
    (sym c.if-push.false) c.supervise.ensures.rounds_spent

pub returns-else-push-clause-too_large : goal.returns-else-push-clause-too_large
returns-else-push-clause-too_large g c =
    let may = MayAnswer (λ b. (goal.Handler-dyn g b).answers b.1) c.args.handlers.now in
    let are = λ (names : CustomCapabilities). IsOrdered (names_of c.args.handlers.now) names.capabilities in
    let before : Moment = record {
      agent = c.args.agent.now;
      held = nothing_held c.args.options.now.prove;
      disk = g.D.Disk.state c.args.disk.now;
      folder = g.F.Folder.state c.args.folder.now;
      dialer = g.G.Dialer.state c.args.dialer.now;
      clock = g.C.Clock.state c.args.clock.now;
    } in
    let after : HeldView → Moment = λ held. record {
      agent = c.supervise.new.agent;
      held = held;
      disk = g.D.Disk.state c.supervise.new.disk;
      folder = g.F.Folder.state c.supervise.new.folder;
      dialer = g.G.Dialer.state c.supervise.new.dialer;
      clock = g.C.Clock.state c.supervise.new.clock;
    } in
    subst (λ (push : Bool). c.supervise.result ≡ Err TooLarge
    → ReportTooLarge c.supervise.new.agent ⊎ ((held : HeldView) × (saves : List Saved) × RunEndsBy (asking_of push) (waiting_of push) TooLarge may are c.args.options.now.rounds (stage_at before []) (stage_at (after held) saves)))
    (sym c.if-push.false) c.supervise.ensures.too_large

pub returns-else-push-clause-proved : goal.returns-else-push-clause-proved
returns-else-push-clause-proved g c = c.supervise.ensures.proved

pub returns-else-push-clause-configuration : goal.returns-else-push-clause-configuration
returns-else-push-clause-configuration g c = λ held.
    let may = MayAnswer (λ b. (goal.Handler-dyn g b).answers b.1) c.args.handlers.now in
    let are = λ (names : CustomCapabilities). IsOrdered (names_of c.args.handlers.now) names.capabilities in
    let before : Moment = record {
      agent = c.args.agent.now;
      held = nothing_held c.args.options.now.prove;
      disk = g.D.Disk.state c.args.disk.now;
      folder = g.F.Folder.state c.args.folder.now;
      dialer = g.G.Dialer.state c.args.dialer.now;
      clock = g.C.Clock.state c.args.clock.now;
    } in
    let after : Moment = record {
      agent = c.supervise.new.agent;
      held = held;
      disk = g.D.Disk.state c.supervise.new.disk;
      folder = g.F.Folder.state c.supervise.new.folder;
      dialer = g.G.Dialer.state c.supervise.new.dialer;
      clock = g.C.Clock.state c.supervise.new.clock;
    } in
    leaves_config may are c.configuration_stays.ensures.begins c.configuration_stays.ensures.rounds c.configuration_stays.ensures.pushed_rounds
    c.args.options.now.push c.args.options.now.rounds c.args.options.now.prove before after c.supervise.result refl

pub returns-else-push-clause-store_fault : goal.returns-else-push-clause-store_fault
returns-else-push-clause-store_fault g c = c.supervise.ensures.store_fault

pub returns-else-push-clause-folder_fault : goal.returns-else-push-clause-folder_fault
returns-else-push-clause-folder_fault g c = c.supervise.ensures.folder_fault

pub returns-else-push-clause-clock_fault : goal.returns-else-push-clause-clock_fault
returns-else-push-clause-clock_fault g c = c.supervise.ensures.clock_fault

pub returns-else-push-clause-numbers_spent : goal.returns-else-push-clause-numbers_spent
returns-else-push-clause-numbers_spent g c =
    let may = MayAnswer (λ b. (goal.Handler-dyn g b).answers b.1) c.args.handlers.now in
    let are = λ (names : CustomCapabilities). IsOrdered (names_of c.args.handlers.now) names.capabilities in
    let before : Moment = record {
      agent = c.args.agent.now;
      held = nothing_held c.args.options.now.prove;
      disk = g.D.Disk.state c.args.disk.now;
      folder = g.F.Folder.state c.args.folder.now;
      dialer = g.G.Dialer.state c.args.dialer.now;
      clock = g.C.Clock.state c.args.clock.now;
    } in
    let after : HeldView → Moment = λ held. record {
      agent = c.supervise.new.agent;
      held = held;
      disk = g.D.Disk.state c.supervise.new.disk;
      folder = g.F.Folder.state c.supervise.new.folder;
      dialer = g.G.Dialer.state c.supervise.new.dialer;
      clock = g.C.Clock.state c.supervise.new.clock;
    } in
    subst (λ (push : Bool). c.supervise.result ≡ Err NumbersSpent
    → ReportSpent c.supervise.new.agent ⊎ ((held : HeldView) × (saves : List Saved) × RunEndsBy (asking_of push) (waiting_of push) NumbersSpent may are c.args.options.now.rounds (stage_at before []) (stage_at (after held) saves)))
    (sym c.if-push.false) c.supervise.ensures.numbers_spent
