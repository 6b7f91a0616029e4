use Rattle.std.proofs.Common.{refl, subst}
use Rattle.agent_rules.specs.declared.rules.parts.Next.{Next}
use Rattle.agent_rules.specs.Keeping.{TakeReply}
use Rattle.agent_rules.specs.Offers.{next_of}
use Rattle.message_handlers.specs.Asking.{MayAnswer}
use Rattle.agent_rounds.specs.Moments.{RunsPart, held_view, with_clock, with_dialer, with_folder, with_held}
use Rattle.agent_rounds.specs.Replies.{DealsWithNext}
use Rattle.agent_rounds.specs.Stages.{MakesCall}
use Rattle.agent_rounds.proofs.DealLemmas.{at_clock}
use Rattle.agent_rounds.proofs.FollowLemmas.{follow, follow_ends}
use Rattle.agent_rounds.proofs.dealing.deal_with_reply.Goals as goal

pub returns-in-Err-clause-does : goal.returns-in-Err-clause-does
returns-in-Err-clause-does g c = λ s.
    let may = MayAnswer (λ b. (goal.Handler-dyn g b).answers b.1) c.args.handlers.now in
    let held = held_view g.G.Dialer.number c.args.held.now in
    let folder = g.F.Folder.state c.args.folder.now in
    let dialer = g.G.Dialer.state c.args.dialer.now in
    let clock = g.C.Clock.state c.args.clock.now in
    let run = follow_ends (MakesCall (TakeReply c.args.reply.now)) (λ _. DealsWithNext may (next_of c.args.reply.now c.args.agent.now.half)) (g.D.Disk.state c.args.disk.now) (g.D.Disk.state c.take_reply.new.disk)
    (at_clock c.args.agent.now held folder dialer clock) (at_clock c.take_reply.new.agent held folder dialer clock) c.in-Err.end (λ s. c.in-Err.ensures.does (with_held held (with_folder folder (with_dialer dialer (with_clock clock s))))) s in
    record { saves = run.saves; does = run.does; images = run.images }

pub returns-clause-does : goal.returns-clause-does
returns-clause-does g c = λ s.
    let may = MayAnswer (λ b. (goal.Handler-dyn g b).answers b.1) c.args.handlers.now in
    let held = held_view g.G.Dialer.number c.args.held.now in
    let held1 = held_view g.G.Dialer.number c.deal_with_next-ended.new.held in
    let folder = g.F.Folder.state c.args.folder.now in
    let folder1 = g.F.Folder.state c.deal_with_next-ended.new.folder in
    let dialer = g.G.Dialer.state c.args.dialer.now in
    let clock = g.C.Clock.state c.args.clock.now in
    let dialer1 = g.G.Dialer.state c.deal_with_next-ended.new.dialer in
    let clock1 = g.C.Clock.state c.deal_with_next-ended.new.clock in
    let run = follow (MakesCall (TakeReply c.args.reply.now)) (λ _. DealsWithNext may (next_of c.args.reply.now c.args.agent.now.half)) (g.D.Disk.state c.args.disk.now) (g.D.Disk.state c.take_reply.new.disk) (g.D.Disk.state c.deal_with_next-ended.new.disk)
    (at_clock c.args.agent.now held folder dialer clock) (at_clock c.take_reply.new.agent held folder dialer clock) (at_clock c.deal_with_next-ended.new.agent held1 folder1 dialer1 clock1) tt c.deal_with_next-ended.result (λ saves s. refl) (λ saves s. refl)
    (λ s. c.in-Ok.ensures.does (with_held held (with_folder folder (with_dialer dialer (with_clock clock s)))))
    (λ s. subst (λ (n : Next). RunsPart (DealsWithNext may n) (g.D.Disk.state c.take_reply.new.disk) (g.D.Disk.state c.deal_with_next-ended.new.disk) (at_clock c.take_reply.new.agent held folder dialer clock s) (at_clock c.deal_with_next-ended.new.agent held1 folder1 dialer1 clock1 s) c.deal_with_next-ended.result)
    c.in-Ok.ensures.next (c.deal_with_next-ended.ensures.does s)) s in
    record { saves = run.saves; does = run.does; images = run.images }
