use Rattle.std.proofs.Common.{Bool, None, Ok, refl, subst}
use Rattle.agent_rounds.specs.Moments.{held_view, link_given, number_held, with_agent, with_dialer, with_held}
use Rattle.agent_rounds.specs.Parts.{AsksReport, HasLink}
use Rattle.agent_rounds.proofs.RunLemmas.{goes_on}
use Rattle.agent_rounds.proofs.linking.ask_server.Goals as goal

pub returns-then-linked-clause-asks : goal.returns-then-linked-clause-asks
returns-then-linked-clause-asks g c =
    let number = g.G.Dialer.number in
    λ s.
    let before = with_agent c.args.agent.now (with_held (held_view number c.args.held.now) (with_dialer (g.G.Dialer.state c.args.dialer.now) s)) in
    let between = with_agent c.args.agent.now (with_held (held_view number c.has_link.new.held) (with_dialer (g.G.Dialer.state c.has_link.new.dialer) s)) in
    goes_on HasLink (AsksReport c.args.bytes.now) before between _ (number_held (held_view number c.has_link.new.held)) _
    (subst (λ (linked : Bool). HasLink before between (link_given (held_view number c.has_link.new.held) (Ok linked))) c.if-linked.true (c.in-Ok.ensures.links s))
    (c.ask_link.ensures.asks s)

pub returns-else-linked-clause-asks : goal.returns-else-linked-clause-asks
returns-else-linked-clause-asks g c =
    let number = g.G.Dialer.number in
    λ s.
    let before = with_agent c.args.agent.now (with_held (held_view number c.args.held.now) (with_dialer (g.G.Dialer.state c.args.dialer.now) s)) in
    let between = with_agent c.args.agent.now (with_held (held_view number c.has_link.new.held) (with_dialer (g.G.Dialer.state c.has_link.new.dialer) s)) in
    goes_on HasLink (AsksReport c.args.bytes.now) before between between None (Ok None)
    (subst (λ (linked : Bool). HasLink before between (link_given (held_view number c.has_link.new.held) (Ok linked))) c.if-linked.false (c.in-Ok.ensures.links s))
    (refl, refl)
