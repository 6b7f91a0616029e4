use Rattle.std.proofs.Common.{◌∙◌, ℕ, Some, List, ap, sym}
use Rattle.server_sessions.specs.Reports.{desk_of}
use Rattle.server_sessions.specs.Wiring.{view_of}
use Rattle.server_deliveries.specs.Turns.{post_of}
use Rattle.server_deliveries.specs.Views.{reach_of}
use Rattle.server_deliveries.proofs.PushLemmas.{none_leads, nothing_leads, push_leads}
use Rattle.server_deliveries.proofs.Reaching.{route_has}
use Rattle.server_deliveries.proofs.pushing.push_to.Goals as goal

pub returns-in_default-clause-pushes : goal.returns-in_default-clause-pushes
returns-in_default-clause-pushes g c = λ entropy rollouts.
    none_leads c.args.server.now.profile c.args.uid.now (desk_of entropy c.args.server.now.table rollouts) (post_of c.args.connections.now (reach_of c.args.routes.now) (view_of (g.W.Wire.calls c.args.wire.now) (g.W.Wire.faults c.args.wire.now)))
    (sym c.in_default.is ∙ c.route.ensures.route)

pub returns-in_default-2-clause-pushes : goal.returns-in_default-2-clause-pushes
returns-in_default-2-clause-pushes g c = λ entropy rollouts.
    nothing_leads c.args.server.now.profile c.args.uid.now (desk_of entropy c.args.server.now.table rollouts) (post_of c.args.connections.now (reach_of c.args.routes.now) (view_of (g.W.Wire.calls c.args.wire.now) (g.W.Wire.faults c.args.wire.now)))
    (sym c.in_default-2.is ∙ c.in_ok-payload.ensures.payload)

pub send_push-requires-clause-own : goal.send_push-requires-clause-own
send_push-requires-clause-own g c = c.requires.known c.args.uid.now c.in-Some.conn (route_has (reach_of c.args.routes.now) c.args.uid.now c.in-Some.conn (sym c.in-Some.is ∙ c.route.ensures.route))

pub returns-clause-pushes : goal.returns-clause-pushes
returns-clause-pushes g c = λ entropy rollouts.
    push_leads c.args.server.now.profile c.args.uid.now (desk_of entropy c.args.server.now.table rollouts)
    (post_of c.args.connections.now (reach_of c.args.routes.now) (view_of (g.W.Wire.calls c.args.wire.now) (g.W.Wire.faults c.args.wire.now)))
    (post_of c.send_push.new.connections (reach_of c.send_push.new.routes) (view_of (g.W.Wire.calls c.send_push.new.wire) (g.W.Wire.faults c.send_push.new.wire)))
    c.in-Some.conn c.as_slice.result.now (sym c.in-Some.is ∙ c.route.ensures.route)
    (ap (λ (p : List ℕ). Some p) c.as_slice.ensures.value ∙ sym c.in-Some-2.is ∙ c.in_ok-payload.ensures.payload) (c.send_push.ensures.sends (desk_of entropy c.args.server.now.table rollouts))
