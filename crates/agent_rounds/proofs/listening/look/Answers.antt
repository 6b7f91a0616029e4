use Rattle.std.proofs.Common.{◌≡◌, Some, Ok, sym, ◌∙◌, ap, subst}
use Rattle.agent_rounds.specs.Listening.{Listens}
use Rattle.agent_rounds.specs.Moments.{held_view, number_held, with_dialer, with_held}
use Rattle.agent_rounds.specs.declared.listening.Arrival.TheVariants.{Gone}
use Rattle.agent_rounds.proofs.ListeningLemmas.{listened_dead, listened_live}
use Rattle.agent_rounds.proofs.listening.look.Goals as goal

pub returns-in-Ok-clause-listens : goal.returns-in-Ok-clause-listens
returns-in-Ok-clause-listens g c =
    let number = g.G.Dialer.number in
    let held = held_view number c.args.held.now in
    let linked : number_held held ≡ Some (number c.in-Some.dialled.link) =
    ap (λ link. number_held (held_view number (record (c.args.held.now) { link = link }))) (sym c.in-Some.ensures.value)
    in
    let same =
    ap (λ n. record held { link = Some (record { number = n; uid = c.in-Some.dialled.uid; endpoint = c.in-Some.dialled.endpoint; headers = c.in-Some.dialled.headers }) }) c.in-Ok.ensures.link
    ∙ ap (λ link. held_view number (record (c.args.held.now) { link = link })) c.in-Some.ensures.value
    in
    λ s. listened_live s held (g.G.Dialer.state c.args.dialer.now) (g.G.Dialer.state c.arrived.new.dialer) (number c.in-Some.dialled.link) linked c.in-Ok.message c.what_came.result c.what_came.ensures _ same
    c.in-Ok.ensures.exchange

pub returns-in-Err-clause-listens : goal.returns-in-Err-clause-listens
returns-in-Err-clause-listens g c =
    let number = g.G.Dialer.number in
    let held = held_view number c.args.held.now in
    let linked : number_held held ≡ Some (number c.in-Some.dialled.link) =
    ap (λ link. number_held (held_view number (record (c.args.held.now) { link = link }))) (sym c.in-Some.ensures.value)
    in
    λ s. subst (λ link. Listens (with_held held (with_dialer (g.G.Dialer.state c.args.dialer.now) s))
    (with_held (held_view number (record (c.args.held.now) { link = link })) (with_dialer (g.G.Dialer.state c.arrived.new.dialer) s)) (Ok Gone))
    (sym c.take.ensures.after)
    (listened_dead s held (g.G.Dialer.state c.args.dialer.now) (g.G.Dialer.state c.arrived.new.dialer) (number c.in-Some.dialled.link) linked g.row.G-Link.Denot c.in-Err.field-0 c.in-Err.ensures.exchange)
