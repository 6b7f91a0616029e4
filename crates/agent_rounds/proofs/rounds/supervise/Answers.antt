use Rattle.std.proofs.Common.{true, inl, inr, refl, subst}
use Rattle.message_handlers.specs.Names.{IsOrdered, names_of}
use Rattle.message_values.specs.declared.custom.CustomCapabilities.{CustomCapabilities}
use Rattle.message_handlers.specs.Asking.{MayAnswer}
use Rattle.agent_rounds.specs.declared.ends.AgentEnd.TheVariants as ends
use Rattle.agent_rounds.specs.Moments.{Leads, Moment, held_view, nothing_held}
use Rattle.agent_rounds.specs.Replies.{EndsWith}
use Rattle.agent_rounds.specs.Rounds.{AgentRounds, AsksServer}
use Rattle.agent_rounds.specs.Status.{HeldView}
use Rattle.agent_rounds.proofs.AreaLemmas.{leads_to_config, server_keeps, wait_keeps}
use Rattle.agent_rounds.proofs.CalmLemmas.{ends_calm, server_calm}
use Rattle.agent_rounds.proofs.CarryLemmas.{leads_prove}
use Rattle.agent_rounds.proofs.CauseLemmas.{asks_outside, leads_rounds_spent, leads_rounds_want, wait_outside}
use Rattle.agent_rounds.proofs.rounds.supervise.Goals as goal

pub returns-clause-rounds : goal.returns-clause-rounds
returns-clause-rounds g c =
    let may = MayAnswer (λ b. (goal.Handler-dyn g b).answers b.1) c.args.handlers.now in
    let are = λ (names : CustomCapabilities). IsOrdered (names_of c.args.handlers.now) names.capabilities in
    let final : Moment = record {
      agent = c.run_rounds.new.agent;
      held = held_view g.G.Dialer.number c.run_rounds.new.held;
      disk = g.D.Disk.state c.run_rounds.new.disk;
      folder = g.F.Folder.state c.run_rounds.new.folder;
      dialer = g.G.Dialer.state c.run_rounds.new.dialer;
      clock = g.C.Clock.state c.run_rounds.new.clock;
    } in (
      held_view g.G.Dialer.number c.run_rounds.new.held,
      subst (λ (held : HeldView). Leads (AgentRounds may are c.args.rounds 0)
          (record {
            agent = c.args.agent.now;
            held = held;
            disk = g.D.Disk.state c.args.disk.now;
            folder = g.F.Folder.state c.args.folder.now;
            dialer = g.G.Dialer.state c.args.dialer.now;
            clock = g.C.Clock.state c.args.clock.now;
          })
          final c.run_rounds.result)
          (c.new-held.ensures.nothing g.G.Dialer.number) c.run_rounds.ensures.rounds,
    )

pub returns-clause-proved : goal.returns-clause-proved
returns-clause-proved g c = λ asked.
    let may = MayAnswer (λ b. (goal.Handler-dyn g b).answers b.1) c.args.handlers.now in
    let are = λ (names : CustomCapabilities). IsOrdered (names_of c.args.handlers.now) names.capabilities in
    let ran = returns-clause-rounds g c in
    let start : Moment = record {
      agent = c.args.agent.now;
      held = nothing_held c.args.prove;
      disk = g.D.Disk.state c.args.disk.now;
      folder = g.F.Folder.state c.args.folder.now;
      dialer = g.G.Dialer.state c.args.dialer.now;
      clock = g.C.Clock.state c.args.clock.now;
    } in
    let final : Moment = record {
      agent = c.run_rounds.new.agent;
      held = ran.0;
      disk = g.D.Disk.state c.run_rounds.new.disk;
      folder = g.F.Folder.state c.run_rounds.new.folder;
      dialer = g.G.Dialer.state c.run_rounds.new.dialer;
      clock = g.C.Clock.state c.run_rounds.new.clock;
    } in
    leads_prove AsksServer EndsWith server_calm ends_calm may are c.args.prove asked c.args.rounds start final c.run_rounds.result refl ran.1

pub returns-clause-rounds_spent : goal.returns-clause-rounds_spent
returns-clause-rounds_spent g c = λ is.
    let may = MayAnswer (λ b. (goal.Handler-dyn g b).answers b.1) c.args.handlers.now in
    let are = λ (names : CustomCapabilities). IsOrdered (names_of c.args.handlers.now) names.capabilities in
    let ran = returns-clause-rounds g c in
    let start : Moment = record {
      agent = c.args.agent.now;
      held = nothing_held c.args.prove;
      disk = g.D.Disk.state c.args.disk.now;
      folder = g.F.Folder.state c.args.folder.now;
      dialer = g.G.Dialer.state c.args.dialer.now;
      clock = g.C.Clock.state c.args.clock.now;
    } in
    let final : Moment = record {
      agent = c.run_rounds.new.agent;
      held = ran.0;
      disk = g.D.Disk.state c.run_rounds.new.disk;
      folder = g.F.Folder.state c.run_rounds.new.folder;
      dialer = g.G.Dialer.state c.run_rounds.new.dialer;
      clock = g.C.Clock.state c.run_rounds.new.clock;
    } in
    let spent = leads_rounds_spent AsksServer EndsWith asks_outside wait_outside may are c.args.rounds start final c.run_rounds.result ran.1 is in
    (ran.0, spent.0, spent.1)

pub returns-clause-numbers_spent : goal.returns-clause-numbers_spent
returns-clause-numbers_spent g c = λ is.
    let may = MayAnswer (λ b. (goal.Handler-dyn g b).answers b.1) c.args.handlers.now in
    let are = λ (names : CustomCapabilities). IsOrdered (names_of c.args.handlers.now) names.capabilities in
    let ran = returns-clause-rounds g c in
    let start : Moment = record {
      agent = c.args.agent.now;
      held = nothing_held c.args.prove;
      disk = g.D.Disk.state c.args.disk.now;
      folder = g.F.Folder.state c.args.folder.now;
      dialer = g.G.Dialer.state c.args.dialer.now;
      clock = g.C.Clock.state c.args.clock.now;
    } in
    let final : Moment = record {
      agent = c.run_rounds.new.agent;
      held = ran.0;
      disk = g.D.Disk.state c.run_rounds.new.disk;
      folder = g.F.Folder.state c.run_rounds.new.folder;
      dialer = g.G.Dialer.state c.run_rounds.new.dialer;
      clock = g.C.Clock.state c.run_rounds.new.clock;
    } in
    elim (leads_rounds_want AsksServer EndsWith asks_outside wait_outside may are c.args.rounds start final c.run_rounds.result ran.1 ends.NumbersSpent tt is) [
      | inl report ↦ inl report
      | inr reply ↦ inr (ran.0, reply.0, reply.1)
    ]

pub returns-clause-too_large : goal.returns-clause-too_large
returns-clause-too_large g c = λ is.
    let may = MayAnswer (λ b. (goal.Handler-dyn g b).answers b.1) c.args.handlers.now in
    let are = λ (names : CustomCapabilities). IsOrdered (names_of c.args.handlers.now) names.capabilities in
    let ran = returns-clause-rounds g c in
    let start : Moment = record {
      agent = c.args.agent.now;
      held = nothing_held c.args.prove;
      disk = g.D.Disk.state c.args.disk.now;
      folder = g.F.Folder.state c.args.folder.now;
      dialer = g.G.Dialer.state c.args.dialer.now;
      clock = g.C.Clock.state c.args.clock.now;
    } in
    let final : Moment = record {
      agent = c.run_rounds.new.agent;
      held = ran.0;
      disk = g.D.Disk.state c.run_rounds.new.disk;
      folder = g.F.Folder.state c.run_rounds.new.folder;
      dialer = g.G.Dialer.state c.run_rounds.new.dialer;
      clock = g.C.Clock.state c.run_rounds.new.clock;
    } in
    elim (leads_rounds_want AsksServer EndsWith asks_outside wait_outside may are c.args.rounds start final c.run_rounds.result ran.1 ends.TooLarge tt is) [
      | inl large ↦ inl large
      | inr reply ↦ inr (ran.0, reply.0, reply.1)
    ]

pub returns-clause-configuration : goal.returns-clause-configuration
returns-clause-configuration g c = λ told.
    let may = MayAnswer (λ b. (goal.Handler-dyn g b).answers b.1) c.args.handlers.now in
    let are = λ (names : CustomCapabilities). IsOrdered (names_of c.args.handlers.now) names.capabilities in
    let ran = returns-clause-rounds g c in
    let start : Moment = record {
      agent = c.args.agent.now;
      held = nothing_held c.args.prove;
      disk = g.D.Disk.state c.args.disk.now;
      folder = g.F.Folder.state c.args.folder.now;
      dialer = g.G.Dialer.state c.args.dialer.now;
      clock = g.C.Clock.state c.args.clock.now;
    } in
    let final : Moment = record {
      agent = c.run_rounds.new.agent;
      held = ran.0;
      disk = g.D.Disk.state c.run_rounds.new.disk;
      folder = g.F.Folder.state c.run_rounds.new.folder;
      dialer = g.G.Dialer.state c.run_rounds.new.dialer;
      clock = g.C.Clock.state c.run_rounds.new.clock;
    } in
    leads_to_config AsksServer EndsWith (server_keeps true) wait_keeps may are c.args.rounds start final c.run_rounds.result ran.1 c.args.prove refl told
