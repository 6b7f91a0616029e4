use Rattle.std.proofs.Common.{None, ap, subst}
use Rattle.agent_rounds.specs.Moments.{DialsTo, held_view, number_held, with_agent, with_dialer, with_held}
use Rattle.agent_rounds.proofs.LinkLemmas.{idle_same, link_dialled_now, link_found, link_wanting, target_dialled, target_refused}
use Rattle.agent_rounds.proofs.linking.has_link.Goals as goal

pub returns-then-holds_link-clause-links : goal.returns-then-holds_link-clause-links
returns-then-holds_link-clause-links g c =
    let number = g.G.Dialer.number in
    let held = held_view number c.args.held.now in
    let named = ap (λ saved. saved.uid) c.saved.ensures.saved in
    λ s. link_found (with_agent c.args.agent.now (with_held held (with_dialer (g.G.Dialer.state c.args.dialer.now) s))) (number_held held)
    (c.holds_link.ensures.some number c.if-holds_link.true)
    (idle_same _ _ _ _ held (number_held held) named c.target-target.ensures.target (c.holds_link.ensures.found number c.if-holds_link.true))

pub returns-in-Ok-Some-clause-links : goal.returns-in-Ok-Some-clause-links
returns-in-Ok-Some-clause-links g c =
    let number = g.G.Dialer.number in
    let held = held_view number c.args.held.now in
    let uid = c.saved.result.now.uid in
    let to = c.target-target.result.now in
    let named = ap (λ saved. saved.uid) c.saved.ensures.saved in
    λ s. link_dialled_now _ _ _
    (idle_same _ _ _ _ held None named c.target-target.ensures.target (c.holds_link.ensures.none number c.if-holds_link.false))
    (target_dialled number c.args.agent.now s held (g.G.Dialer.state c.args.dialer.now) (g.G.Dialer.state c.dial_target.new.dialer) uid to c.in-Ok-Some.dialled
    named c.target-target.ensures.target
    (subst (λ link. DialsTo number uid to (g.G.Dialer.state c.args.dialer.now) (g.G.Dialer.state c.dial_target.new.dialer) link) c.in-Ok-Some.field-0-is c.in-Ok-Some.ensures.dials))

pub returns-in-Ok-None-clause-links : goal.returns-in-Ok-None-clause-links
returns-in-Ok-None-clause-links g c =
    let number = g.G.Dialer.number in
    let held = held_view number c.args.held.now in
    let uid = c.saved.result.now.uid in
    let to = c.target-target.result.now in
    let named = ap (λ saved. saved.uid) c.saved.ensures.saved in
    λ s. link_dialled_now _ _ _
    (idle_same _ _ _ _ held None named c.target-target.ensures.target (c.holds_link.ensures.none number c.if-holds_link.false))
    (target_refused number c.args.agent.now s held (g.G.Dialer.state c.args.dialer.now) (g.G.Dialer.state c.dial_target.new.dialer) uid to
    named c.target-target.ensures.target
    (subst (λ link. DialsTo number uid to (g.G.Dialer.state c.args.dialer.now) (g.G.Dialer.state c.dial_target.new.dialer) link) c.in-Ok-None.field-0-is c.in-Ok-None.ensures.dials))

pub returns-in-Err-clause-links : goal.returns-in-Err-clause-links
returns-in-Err-clause-links g c =
    let number = g.G.Dialer.number in
    let held = held_view number c.args.held.now in
    let named = ap (λ saved. saved.uid) c.saved.ensures.saved in
    λ s. link_wanting _ _
    (idle_same _ _ _ _ held None named c.target-target.ensures.target (c.holds_link.ensures.none number c.if-holds_link.false))
    (ap (λ dialer. with_agent c.args.agent.now (with_held held (with_dialer (g.G.Dialer.state dialer) s))) c.in-Err.ensures.untouched)
