use Rattle.std.proofs.Common.{ap}
use Rattle.std.specs.Option.{option_map}
use Rattle.server_sessions.specs.Wiring.{view_of}
use Rattle.server_deliveries.specs.Views.{reach_of}
use Rattle.server_deliveries.proofs.DeliveryLemmas.{first_pushed, map_err, map_ok, none_pushed, some_pushed}
use Rattle.server_deliveries.proofs.deliveries.push_where.Goals as goal

pub returns-in-None-clause-follows : goal.returns-in-None-clause-follows
returns-in-None-clause-follows g c = λ rollouts.
    none_pushed c.args.server.now.profile c.args.newly.now c.args.connections.now c.args.connections.now (view_of (g.W.Wire.calls c.args.wire.now) (g.W.Wire.faults c.args.wire.now)) (view_of (g.W.Wire.calls c.args.wire.now) (g.W.Wire.faults c.args.wire.now)) c.args.server.now.table rollouts c.args.stepped.now (option_map reach_of c.args.routes.now)
    (ap (option_map reach_of) c.in-None.is)

pub returns-in-Some-clause-follows : goal.returns-in-Some-clause-follows
returns-in-Some-clause-follows g c =
    rw c.in-Some.is (map_ok c.push_behind.result (λ led rollouts. some_pushed c.args.server.now.profile c.args.newly.now c.args.connections.now c.push_behind.new.connections (view_of (g.W.Wire.calls c.args.wire.now) (g.W.Wire.faults c.args.wire.now)) (view_of (g.W.Wire.calls c.push_behind.new.wire) (g.W.Wire.faults c.push_behind.new.wire)) c.args.server.now.table rollouts c.args.stepped.now _ (reach_of c.push_behind.new.routes) (led rollouts))
    c.push_behind.ensures.follows)

pub returns-in-Some-clause-part : goal.returns-in-Some-clause-part
returns-in-Some-clause-part g c =
    rw c.in-Some.is (map_err c.push_behind.result (λ led rollouts. first_pushed c.args.server.now.profile c.args.newly.now c.args.connections.now c.push_behind.new.connections (view_of (g.W.Wire.calls c.args.wire.now) (g.W.Wire.faults c.args.wire.now)) (view_of (g.W.Wire.calls c.push_behind.new.wire) (g.W.Wire.faults c.push_behind.new.wire)) c.args.server.now.table rollouts c.args.stepped.now _ (reach_of c.push_behind.new.routes) (led rollouts))
    c.push_behind.ensures.part)
