use Rattle.std.proofs.Common.{◌∙◌}
use Rattle.std.specs.Option.{option_map}
use Rattle.server_sessions.specs.Wiring.{view_of}
use Rattle.server_deliveries.specs.Views.{reach_of}
use Rattle.server_deliveries.proofs.DeliveryLemmas.{delivered_on, map_err, map_ok, on_err, on_refused, points_short, pushes_short, were_known}
use Rattle.server_deliveries.proofs.deliveries.DeliveryBehind.follow.Goals as goal

pub come_to_points-requires : goal.come_to_points-requires
come_to_points-requires g c =
    let it = c.requires.behind in
    record { behind = (c.args.connections.now, record { event = it.event; before = it.before; first = it.first; rolling = it.rolling; fitted = it.fitted.0; heard = it.heard; keeps = it.keeps; others = it.others; offers = it.offers }) }

pub push_where-requires-clause-open : goal.push_where-requires-clause-open
push_where-requires-clause-open g c = c.requires.open

pub push_where-requires-clause-known : goal.push_where-requires-clause-known
push_where-requires-clause-known g c =
    let it = c.requires.behind in
    were_known it.before c.args.connections.now it.event c.args.stepped.now c.args.self.now.routes it.fitted.1 it.heard it.keeps

pub returns-in_err-newly-clause-part : goal.returns-in_err-newly-clause-part
returns-in_err-newly-clause-part g c = on_err c.from_residual.result (points_short (g.J.Judge.finds_fine c.args.self.now.judge) c.args.desk.now.server.profile c.args.connections.now c.args.connections.now (view_of (g.W.Wire.calls c.args.wire.now) (g.W.Wire.faults c.args.wire.now)) (view_of (g.W.Wire.calls c.args.wire.now) (g.W.Wire.faults c.args.wire.now)) c.args.desk.now.server.table c.come_to_points.new.desk.server.table c.args.desk.now.rollouts c.come_to_points.new.desk.rollouts c.args.stepped.now (option_map reach_of c.args.self.now.routes) (option_map reach_of c.args.self.now.routes) c.in_err-newly.ensures.part)

pub returns-clause-follows : goal.returns-clause-follows
returns-clause-follows g c =
    map_ok c.push_where.result
    (λ led. delivered_on (g.J.Judge.finds_fine c.args.self.now.judge) c.args.desk.now.server.profile c.args.connections.now c.push_where.new.connections (view_of (g.W.Wire.calls c.args.wire.now) (g.W.Wire.faults c.args.wire.now)) (view_of (g.W.Wire.calls c.push_where.new.wire) (g.W.Wire.faults c.push_where.new.wire)) c.args.desk.now.server.table c.come_to_points.new.desk.server.table c.args.desk.now.rollouts c.come_to_points.new.desk.rollouts c.args.stepped.now (option_map reach_of c.args.self.now.routes) (option_map reach_of c.push_where.new.routes) c.as_slice.result.now (c.as_slice.ensures.value ∙ c.in_ok-newly.ensures.newly) c.in_ok-newly.ensures.table c.in_ok-newly.ensures.rollouts (led c.come_to_points.new.desk.rollouts))
    (rw c.come_to_points.ensures.profile at c.push_where.ensures.follows)

pub returns-clause-part : goal.returns-clause-part
returns-clause-part g c =
    map_err c.push_where.result
    (λ led. pushes_short (g.J.Judge.finds_fine c.args.self.now.judge) c.args.desk.now.server.profile c.args.connections.now c.push_where.new.connections (view_of (g.W.Wire.calls c.args.wire.now) (g.W.Wire.faults c.args.wire.now)) (view_of (g.W.Wire.calls c.push_where.new.wire) (g.W.Wire.faults c.push_where.new.wire)) c.args.desk.now.server.table c.come_to_points.new.desk.server.table c.args.desk.now.rollouts c.come_to_points.new.desk.rollouts c.args.stepped.now (option_map reach_of c.args.self.now.routes) (option_map reach_of c.push_where.new.routes) c.as_slice.result.now (c.as_slice.ensures.value ∙ c.in_ok-newly.ensures.newly) c.in_ok-newly.ensures.table c.in_ok-newly.ensures.rollouts (led c.come_to_points.new.desk.rollouts))
    (rw c.come_to_points.ensures.profile at c.push_where.ensures.part)

pub returns-clause-fits : goal.returns-clause-fits
returns-clause-fits g c = map_ok c.push_where.result (λ known. (c.in_ok-newly.ensures.current, known)) c.push_where.ensures.known

pub returns-in_err-newly-clause-follows : goal.returns-in_err-newly-clause-follows
returns-in_err-newly-clause-follows g c = on_refused _ c.from_residual.result c.from_residual.ensures.0

pub returns-in_err-newly-clause-fits : goal.returns-in_err-newly-clause-fits
returns-in_err-newly-clause-fits g c = on_refused _ c.from_residual.result c.from_residual.ensures.0

pub returns-in_err-newly-clause-open : goal.returns-in_err-newly-clause-open
returns-in_err-newly-clause-open g c = on_refused _ c.from_residual.result c.from_residual.ensures.0

pub returns-in_err-newly-clause-calls : goal.returns-in_err-newly-clause-calls
returns-in_err-newly-clause-calls g c = on_refused _ c.from_residual.result c.from_residual.ensures.0
