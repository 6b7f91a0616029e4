use Rattle.std.proofs.Common.{◌≡◌, List, ℕ, Some, None, Ok, sym, ◌∙◌, ap, subst}
use Rattle.message_values.specs.declared.state.Settings.{Settings}
use Rattle.agent_rules.specs.Half.{target}
use Rattle.agent_rounds.specs.Moments.{held_view, number_held, with_agent, with_dialer, with_held}
use Rattle.agent_rounds.specs.Parts.{AsksReport, IsReplyTo, carried, question_of}
use Rattle.agent_rounds.proofs.LinkLemmas.{asked_dead, asked_live, asked_wanting}
use Rattle.agent_rounds.proofs.linking.ask_link.Goals as goal

pub returns-in-Err-ask-clause-asks : goal.returns-in-Err-ask-clause-asks
returns-in-Err-ask-clause-asks g c =
    let number = g.G.Dialer.number in
    let held = held_view number c.args.held.now in
    let linked : number_held held ≡ Some (number c.in-Some.dialled.link) =
    ap (λ link. number_held (held_view number (record (c.args.held.now) { link = link }))) (sym c.in-Some.ensures.value)
    in
    let asked : c.as_slice.result.now ≡ question_of (target c.args.agent.now.half) c.args.bytes.now =
    c.as_slice.ensures.value ∙ (c.in-Ok.ensures.question ∙ ap (λ (to : Settings). question_of to c.args.bytes.now) c.target-target.ensures.target)
    in
    λ s. subst (λ link. AsksReport c.args.bytes.now (number_held held) (with_agent c.args.agent.now (with_held held (with_dialer (g.G.Dialer.state c.args.dialer.now) s)))
    (with_agent c.args.agent.now (with_held (held_view number (record (c.args.held.now) { link = link })) (with_dialer (g.G.Dialer.state c.ask.new.dialer) s))) (Ok None))
    (sym c.take.ensures.after)
    (asked_dead c.args.agent.now s c.args.bytes.now c.as_slice.result.now (g.G.Dialer.state c.args.dialer.now) (g.G.Dialer.state c.ask.new.dialer) held (number c.in-Some.dialled.link) linked asked g.row.G-Link.Denot c.in-Err-ask.field-0 c.in-Err-ask.ensures.exchange)

pub returns-in-Ok-reply_to-clause-asks : goal.returns-in-Ok-reply_to-clause-asks
returns-in-Ok-reply_to-clause-asks g c =
    let number = g.G.Dialer.number in
    let held = held_view number c.args.held.now in
    let linked : number_held held ≡ Some (number c.in-Some.dialled.link) =
    ap (λ link. number_held (held_view number (record (c.args.held.now) { link = link }))) (sym c.in-Some.ensures.value)
    in
    let asked : c.as_slice.result.now ≡ question_of (target c.args.agent.now.half) c.args.bytes.now =
    c.as_slice.ensures.value ∙ (c.in-Ok.ensures.question ∙ ap (λ (to : Settings). question_of to c.args.bytes.now) c.target-target.ensures.target)
    in
    let same =
    ap (λ n. record held { link = Some (record { number = n; uid = c.in-Some.dialled.uid; endpoint = c.in-Some.dialled.endpoint; headers = c.in-Some.dialled.headers }) }) c.in-Ok-ask.ensures.link
    ∙ ap (λ link. held_view number (record (c.args.held.now) { link = link })) c.in-Some.ensures.value
    in
    let reply = c.in-Ok-reply_to.reply in
    let uid : c.as_slice-2.result.now ≡ c.args.agent.now.half.saved.uid = c.as_slice-2.ensures.value ∙ ap (λ saved. saved.uid) c.saved.ensures.saved in
    let hears =
    subst (λ (u : List ℕ). IsReplyTo u (carried (target c.args.agent.now.half) c.in-Ok-ask.answered.1) reply) uid
    (subst (λ (answer : List ℕ). IsReplyTo c.as_slice-2.result.now (carried (target c.args.agent.now.half) answer) reply) c.as_slice-3.ensures.value
    (subst (λ (to : Settings). IsReplyTo c.as_slice-2.result.now (carried to c.as_slice-3.result.now) reply) c.target-target.ensures.target c.in-Ok-reply_to.ensures.reply))
    in
    λ s. asked_live c.args.agent.now s c.args.bytes.now c.as_slice.result.now (g.G.Dialer.state c.args.dialer.now) (g.G.Dialer.state c.ask.new.dialer) held (number c.in-Some.dialled.link) linked asked c.in-Ok-ask.answered.1 reply _ same
    c.in-Ok-ask.ensures.exchange hears

pub returns-clause-asks : goal.returns-clause-asks
returns-clause-asks g c =
    let number = g.G.Dialer.number in
    let held = held_view number c.args.held.now in
    let linked : number_held held ≡ Some (number c.in-Some.dialled.link) =
    ap (λ link. number_held (held_view number (record (c.args.held.now) { link = link }))) (sym c.in-Some.ensures.value)
    in
    let asked : c.as_slice.result.now ≡ question_of (target c.args.agent.now.half) c.args.bytes.now =
    c.as_slice.ensures.value ∙ (c.in-Ok.ensures.question ∙ ap (λ (to : Settings). question_of to c.args.bytes.now) c.target-target.ensures.target)
    in
    let same =
    ap (λ n. record held { link = Some (record { number = n; uid = c.in-Some.dialled.uid; endpoint = c.in-Some.dialled.endpoint; headers = c.in-Some.dialled.headers }) }) c.in-Ok-ask.ensures.link
    ∙ ap (λ link. held_view number (record (c.args.held.now) { link = link })) c.in-Some.ensures.value
    in
    λ s. asked_wanting c.args.agent.now s c.args.bytes.now c.as_slice.result.now (g.G.Dialer.state c.args.dialer.now) (g.G.Dialer.state c.ask.new.dialer) held (number c.in-Some.dialled.link) linked asked c.in-Ok-ask.answered.1 _ same
    c.in-Ok-ask.ensures.exchange
