-- Why a round ends.
use Rattle.std.proofs.Common.{true}
use Rattle.message_handlers.specs.Asking.{MayAnswer}
use Rattle.message_handlers.specs.Names.{IsOrdered, names_of}
use Rattle.message_values.specs.declared.custom.CustomCapabilities.{CustomCapabilities}
use Rattle.agent_rounds.specs.declared.ends.AgentEnd.TheVariants as ends
use Rattle.agent_rounds.specs.Moments.{Moment, held_view}
use Rattle.agent_rounds.specs.Replies.{EndsWith}
use Rattle.agent_rounds.specs.Rounds.{AsksServer}
use Rattle.agent_rounds.proofs.CauseLemmas.{asks_outside, leads_wants, wait_outside}
use Rattle.agent_rounds.proofs.AreaLemmas.{leads_leave, server_keeps, wait_keeps}
use Rattle.agent_rounds.proofs.rounds.round.Goals as goal

pub returns-clause-numbers_spent : goal.returns-clause-numbers_spent
returns-clause-numbers_spent g c =
    let may = MayAnswer (λ b. (goal.Handler-dyn g b).answers b.1) c.args.handlers.now in
    let are = λ (names : CustomCapabilities). IsOrdered (names_of c.args.handlers.now) names.capabilities in
    let before : Moment = record {
      agent = c.args.agent.now;
      held = held_view g.G.Dialer.number c.args.held.now;
      disk = g.D.Disk.state c.args.disk.now;
      folder = g.F.Folder.state c.args.folder.now;
      dialer = g.G.Dialer.state c.args.dialer.now;
      clock = g.C.Clock.state c.args.clock.now;
    } in
    let after : Moment = record {
      agent = c.run_parts.new.agent;
      held = held_view g.G.Dialer.number c.run_parts.new.held;
      disk = g.D.Disk.state c.run_parts.new.disk;
      folder = g.F.Folder.state c.run_parts.new.folder;
      dialer = g.G.Dialer.state c.run_parts.new.dialer;
      clock = g.C.Clock.state c.run_parts.new.clock;
    } in
    leads_wants AsksServer EndsWith asks_outside wait_outside may are ends.NumbersSpent tt before after c.run_parts.result c.run_parts.ensures.round

pub returns-clause-too_large : goal.returns-clause-too_large
returns-clause-too_large g c =
    let may = MayAnswer (λ b. (goal.Handler-dyn g b).answers b.1) c.args.handlers.now in
    let are = λ (names : CustomCapabilities). IsOrdered (names_of c.args.handlers.now) names.capabilities in
    let before : Moment = record {
      agent = c.args.agent.now;
      held = held_view g.G.Dialer.number c.args.held.now;
      disk = g.D.Disk.state c.args.disk.now;
      folder = g.F.Folder.state c.args.folder.now;
      dialer = g.G.Dialer.state c.args.dialer.now;
      clock = g.C.Clock.state c.args.clock.now;
    } in
    let after : Moment = record {
      agent = c.run_parts.new.agent;
      held = held_view g.G.Dialer.number c.run_parts.new.held;
      disk = g.D.Disk.state c.run_parts.new.disk;
      folder = g.F.Folder.state c.run_parts.new.folder;
      dialer = g.G.Dialer.state c.run_parts.new.dialer;
      clock = g.C.Clock.state c.run_parts.new.clock;
    } in
    leads_wants AsksServer EndsWith asks_outside wait_outside may are ends.TooLarge tt before after c.run_parts.result c.run_parts.ensures.round

pub returns-clause-configuration : goal.returns-clause-configuration
returns-clause-configuration g c =
    let may = MayAnswer (λ b. (goal.Handler-dyn g b).answers b.1) c.args.handlers.now in
    let are = λ (names : CustomCapabilities). IsOrdered (names_of c.args.handlers.now) names.capabilities in
    let before : Moment = record {
      agent = c.args.agent.now;
      held = held_view g.G.Dialer.number c.args.held.now;
      disk = g.D.Disk.state c.args.disk.now;
      folder = g.F.Folder.state c.args.folder.now;
      dialer = g.G.Dialer.state c.args.dialer.now;
      clock = g.C.Clock.state c.args.clock.now;
    } in
    let after : Moment = record {
      agent = c.run_parts.new.agent;
      held = held_view g.G.Dialer.number c.run_parts.new.held;
      disk = g.D.Disk.state c.run_parts.new.disk;
      folder = g.F.Folder.state c.run_parts.new.folder;
      dialer = g.G.Dialer.state c.run_parts.new.dialer;
      clock = g.C.Clock.state c.run_parts.new.clock;
    } in
    leads_leave AsksServer EndsWith (server_keeps true) wait_keeps may are before after c.run_parts.result c.run_parts.ensures.round
