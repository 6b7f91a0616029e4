use Rattle.std.proofs.Common.{Option, None, Ok, refl, sym, subst}
use Rattle.message_values.specs.declared.reply.ServerToAgent.{ServerToAgent}
use Rattle.message_handlers.specs.Asking.{MayAnswer}
use Rattle.agent_rounds.specs.Moments.{RunsPart, held_view, with_clock, with_dialer, with_folder}
use Rattle.agent_rounds.specs.Replies.{DealsWith}
use Rattle.agent_rounds.proofs.DealLemmas.{at_clock}
use Rattle.agent_rounds.proofs.RunLemmas.{run_beside}
use Rattle.agent_rounds.proofs.dealing.deal.Goals as goal

pub returns-in-Some-clause-does : goal.returns-in-Some-clause-does
returns-in-Some-clause-does g c = λ s.
    let may = MayAnswer (λ b. (goal.Handler-dyn g b).answers b.1) c.args.handlers.now in
    subst (λ (reply : Option ServerToAgent). RunsPart (DealsWith may reply) (g.D.Disk.state c.args.disk.now) (g.D.Disk.state c.deal_with_reply-dealt.new.disk)
    (at_clock c.args.agent.now (held_view g.G.Dialer.number c.args.held.now) (g.F.Folder.state c.args.folder.now) (g.G.Dialer.state c.args.dialer.now) (g.C.Clock.state c.args.clock.now) s)
    (at_clock c.deal_with_reply-dealt.new.agent (held_view g.G.Dialer.number c.deal_with_reply-dealt.new.held) (g.F.Folder.state c.deal_with_reply-dealt.new.folder) (g.G.Dialer.state c.deal_with_reply-dealt.new.dialer) (g.C.Clock.state c.deal_with_reply-dealt.new.clock) s) c.deal_with_reply-dealt.result)
    (sym c.in-Some.is) (c.deal_with_reply-dealt.ensures.does s)

pub returns-in-None-clause-does : goal.returns-in-None-clause-does
returns-in-None-clause-does g c = λ s.
    let may = MayAnswer (λ b. (goal.Handler-dyn g b).answers b.1) c.args.handlers.now in
    let folder = g.F.Folder.state c.args.folder.now in
    let dialer = g.G.Dialer.state c.args.dialer.now in
    let clock = g.C.Clock.state c.args.clock.now in
    let before = at_clock c.args.agent.now (held_view g.G.Dialer.number c.args.held.now) folder dialer clock s in
    let after = at_clock c.give_up_round.new.agent (held_view g.G.Dialer.number c.give_up_round.new.held) folder dialer clock s in
    subst (λ (reply : Option ServerToAgent). RunsPart (DealsWith may reply) (g.D.Disk.state c.args.disk.now) (g.D.Disk.state c.args.disk.now) before after (Ok c.give_up_round.result))
    (sym c.in-None.is)
    (run_beside (DealsWith may None) (g.D.Disk.state c.args.disk.now) before after (Ok c.give_up_round.result) c.requires.fits c.give_up_round.ensures.store c.give_up_round.ensures.part refl
    (c.give_up_round.ensures.does g.G.Dialer.number (with_folder folder (with_dialer dialer (with_clock clock s)))))
