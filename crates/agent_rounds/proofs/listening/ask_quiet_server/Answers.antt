use Rattle.std.proofs.Common.{Bool, ℕ, Option, Ok, subst}
use Rattle.agent_rounds.specs.Listening.{Drains, most_looks}
use Rattle.agent_rounds.specs.Moments.{held_view, link_given, number_held, with_agent, with_dialer, with_held}
use Rattle.agent_rounds.specs.Parts.{AsksReport, HasLink}
use Rattle.agent_rounds.proofs.ListeningLemmas.{asked_quiet, some_number, unasked, unasked_loud}
use Rattle.agent_rounds.proofs.listening.ask_quiet_server.Goals as goal

pub returns-then-not-linked-clause-asks : goal.returns-then-not-linked-clause-asks
returns-then-not-linked-clause-asks g c =
    let number = g.G.Dialer.number in
    λ s. unasked c.args.bytes.now
    (with_agent c.args.agent.now (with_held (held_view number c.args.held.now) (with_dialer (g.G.Dialer.state c.args.dialer.now) s)))
    (with_agent c.args.agent.now (with_held (held_view number c.has_link.new.held) (with_dialer (g.G.Dialer.state c.has_link.new.dialer) s)))
    (subst (λ (linked : Bool). HasLink (with_agent c.args.agent.now (with_held (held_view number c.args.held.now) (with_dialer (g.G.Dialer.state c.args.dialer.now) s))) (with_agent c.args.agent.now (with_held (held_view number c.has_link.new.held) (with_dialer (g.G.Dialer.state c.has_link.new.dialer) s))) (link_given (held_view number c.has_link.new.held) (Ok linked))) c.if-not-linked.true (c.in-Ok.ensures.links s))

pub returns-then-drain-clause-asks : goal.returns-then-drain-clause-asks
returns-then-drain-clause-asks g c =
    let number = g.G.Dialer.number in
    λ s. asked_quiet c.args.bytes.now
    (with_agent c.args.agent.now (with_held (held_view number c.args.held.now) (with_dialer (g.G.Dialer.state c.args.dialer.now) s)))
    (with_agent c.args.agent.now (with_held (held_view number c.has_link.new.held) (with_dialer (g.G.Dialer.state c.has_link.new.dialer) s)))
    (with_agent c.args.agent.now (with_held (held_view number c.drain.new.held) (with_dialer (g.G.Dialer.state c.drain.new.dialer) s)))
    (with_agent c.args.agent.now (with_held (held_view number c.ask_link.new.held) (with_dialer (g.G.Dialer.state c.ask_link.new.dialer) s)))
    (number_held (held_view number c.has_link.new.held)) c.ask_link.result (some_number number c.has_link.new.held (c.in-Ok.ensures.linked c.if-not-linked.false))
    (subst (λ (linked : Bool). HasLink (with_agent c.args.agent.now (with_held (held_view number c.args.held.now) (with_dialer (g.G.Dialer.state c.args.dialer.now) s))) (with_agent c.args.agent.now (with_held (held_view number c.has_link.new.held) (with_dialer (g.G.Dialer.state c.has_link.new.dialer) s))) (link_given (held_view number c.has_link.new.held) (Ok linked))) c.if-not-linked.false (c.in-Ok.ensures.links s))
    (subst (λ (quiet : Bool). Drains most_looks (with_agent c.args.agent.now (with_held (held_view number c.has_link.new.held) (with_dialer (g.G.Dialer.state c.has_link.new.dialer) s))) (with_agent c.args.agent.now (with_held (held_view number c.drain.new.held) (with_dialer (g.G.Dialer.state c.drain.new.dialer) s))) (Ok quiet)) c.if-drain.true (c.drain.ensures.drains (with_agent c.args.agent.now s)))
    (subst (λ (link : Option ℕ). AsksReport c.args.bytes.now link (with_agent c.args.agent.now (with_held (held_view number c.drain.new.held) (with_dialer (g.G.Dialer.state c.drain.new.dialer) s))) (with_agent c.args.agent.now (with_held (held_view number c.ask_link.new.held) (with_dialer (g.G.Dialer.state c.ask_link.new.dialer) s))) c.ask_link.result) (c.drain.ensures.number c.if-drain.true) (c.ask_link.ensures.asks s))

pub returns-else-drain-clause-asks : goal.returns-else-drain-clause-asks
returns-else-drain-clause-asks g c =
    let number = g.G.Dialer.number in
    λ s. unasked_loud c.args.bytes.now
    (with_agent c.args.agent.now (with_held (held_view number c.args.held.now) (with_dialer (g.G.Dialer.state c.args.dialer.now) s)))
    (with_agent c.args.agent.now (with_held (held_view number c.has_link.new.held) (with_dialer (g.G.Dialer.state c.has_link.new.dialer) s)))
    (with_agent c.args.agent.now (with_held (held_view number c.drain.new.held) (with_dialer (g.G.Dialer.state c.drain.new.dialer) s)))
    (with_agent c.args.agent.now (with_held (held_view number c.drain.new.held) (with_dialer (g.G.Dialer.state c.drain.new.dialer) s)))
    (number_held (held_view number c.has_link.new.held)) (some_number number c.has_link.new.held (c.in-Ok.ensures.linked c.if-not-linked.false))
    (subst (λ (linked : Bool). HasLink (with_agent c.args.agent.now (with_held (held_view number c.args.held.now) (with_dialer (g.G.Dialer.state c.args.dialer.now) s))) (with_agent c.args.agent.now (with_held (held_view number c.has_link.new.held) (with_dialer (g.G.Dialer.state c.has_link.new.dialer) s))) (link_given (held_view number c.has_link.new.held) (Ok linked))) c.if-not-linked.false (c.in-Ok.ensures.links s))
    (subst (λ (quiet : Bool). Drains most_looks (with_agent c.args.agent.now (with_held (held_view number c.has_link.new.held) (with_dialer (g.G.Dialer.state c.has_link.new.dialer) s))) (with_agent c.args.agent.now (with_held (held_view number c.drain.new.held) (with_dialer (g.G.Dialer.state c.drain.new.dialer) s))) (Ok quiet)) c.if-drain.false (c.drain.ensures.drains (with_agent c.args.agent.now s)))
