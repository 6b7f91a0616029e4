use Rattle.server_sessions.specs.Wiring.{view_of}
use Rattle.server_deliveries.specs.Routes.{routes_noted}
use Rattle.server_deliveries.specs.Views.{reach_of}
use Rattle.server_deliveries.proofs.Reaching.{known_after, known_noted}
use Rattle.server_deliveries.proofs.TurnLemmas.{pushed_by, pushed_in_part}
use Rattle.server_deliveries.proofs.pushing.RoutesBehind.follow.Goals as goal

pub push_due-requires-clause-known : goal.push_due-requires-clause-known
push_due-requires-clause-known g c =
    let it = c.requires.behind in
    known_after it.before c.args.connections.now c.args.stepped.now.ended (routes_noted c.args.stepped.now.handled (reach_of c.args.self.now))
    (known_noted it.before it.event c.args.stepped.now.handled (reach_of c.args.self.now) it.fitted it.heard)
    it.keeps

pub returns-clause-follows : goal.returns-clause-follows
returns-clause-follows g c = pushed_by c.streams_stay_keyed.ensures.keyed c.args.desk.now.server.profile c.args.connections.now c.push_due.new.connections (view_of (g.W.Wire.calls c.args.wire.now) (g.W.Wire.faults c.args.wire.now)) (view_of (g.W.Wire.calls c.push_due.new.wire) (g.W.Wire.faults c.push_due.new.wire)) c.args.desk.now.server.table c.args.desk.now.rollouts c.args.stepped.now (reach_of c.args.self.now) (reach_of c.push_due.new.routes) c.push_due.result c.push_due.ensures.pushes

pub returns-clause-part : goal.returns-clause-part
returns-clause-part g c = pushed_in_part c.streams_stay_keyed.ensures.keyed c.args.desk.now.server.profile c.args.connections.now c.push_due.new.connections (view_of (g.W.Wire.calls c.args.wire.now) (g.W.Wire.faults c.args.wire.now)) (view_of (g.W.Wire.calls c.push_due.new.wire) (g.W.Wire.faults c.push_due.new.wire)) c.args.desk.now.server.table c.args.desk.now.rollouts c.args.stepped.now (reach_of c.args.self.now) (reach_of c.push_due.new.routes) c.push_due.result c.push_due.ensures.some
