use Rattle.std.proofs.Common.{List, [], ℕ, subst}
use Rattle.server_sessions.specs.Reports.{desk_of}
use Rattle.server_sessions.specs.Wiring.{view_of}
use Rattle.server_deliveries.specs.Pushing.{PushesToAll, but_for, pushed_to}
use Rattle.server_deliveries.specs.Routes.{routes_ended, routes_noted}
use Rattle.server_deliveries.specs.Turns.{Leads, PushesFirst, post_of}
use Rattle.server_deliveries.specs.Views.{reach_of}
use Rattle.server_deliveries.proofs.Others.{further_first, leads_both, map_err, map_ok, on_ok, on_refused, wider_first}
use Rattle.server_deliveries.proofs.PushLemmas.{on_err}
use Rattle.server_deliveries.proofs.Reaching.{known_after, known_noted}
use Rattle.server_deliveries.proofs.TurnLemmas.{led_on, led_in_part}
use Rattle.server_deliveries.proofs.pushing.push_behind.Goals as goal

pub push_due-requires-clause-known : goal.push_due-requires-clause-known
push_due-requires-clause-known g c =
    let it = c.requires.known in
    known_after it.0 c.args.connections.now c.args.stepped.now.ended (routes_noted c.args.stepped.now.handled (reach_of c.args.routes.now))
    (known_noted it.0 it.1 c.args.stepped.now.handled (reach_of c.args.routes.now) it.2 it.3)
    it.4

pub returns-in_err-push_due-clause-part : goal.returns-in_err-push_due-clause-part
returns-in_err-push_due-clause-part g c =
    let some = c.in_err-push_due.ensures.some in
    on_err _ c.from_residual.result
    (λ rollouts. led_in_part c.streams_stay_keyed.ensures.keyed c.args.server.now.profile c.args.connections.now c.push_due.new.connections (view_of (g.W.Wire.calls c.args.wire.now) (g.W.Wire.faults c.args.wire.now)) (view_of (g.W.Wire.calls c.push_due.new.wire) (g.W.Wire.faults c.push_due.new.wire)) c.args.server.now.table rollouts c.args.stepped.now (reach_of c.args.routes.now) (reach_of c.push_due.new.routes)
    (pushed_to c.args.stepped.now.ordered c.args.newly.now) some.0
    (wider_first c.args.server.now.profile c.args.stepped.now.ordered (but_for c.args.stepped.now.ordered c.args.newly.now) c.args.server.now.table (post_of c.args.connections.now (routes_ended c.args.stepped.now.ended (routes_noted c.args.stepped.now.handled (reach_of c.args.routes.now))) (view_of (g.W.Wire.calls c.args.wire.now) (g.W.Wire.faults c.args.wire.now)))
    (post_of c.push_due.new.connections some.0 (view_of (g.W.Wire.calls c.push_due.new.wire) (g.W.Wire.faults c.push_due.new.wire))) some.1))

pub push_to_others-requires-clause-open : goal.push_to_others-requires-clause-open
push_to_others-requires-clause-open g c = c.in_ok-push_due.ensures.open

pub push_to_others-requires-clause-known : goal.push_to_others-requires-clause-known
push_to_others-requires-clause-known g c = c.in_ok-push_due.ensures.known

pub returns-clause-follows : goal.returns-clause-follows
returns-clause-follows g c =
    map_ok c.push_to_others.result (λ p rollouts.
    led_on c.streams_stay_keyed.ensures.keyed c.args.server.now.profile c.args.connections.now c.push_to_others.new.connections (view_of (g.W.Wire.calls c.args.wire.now) (g.W.Wire.faults c.args.wire.now)) (view_of (g.W.Wire.calls c.push_to_others.new.wire) (g.W.Wire.faults c.push_to_others.new.wire)) c.args.server.now.table rollouts c.args.stepped.now (reach_of c.args.routes.now) (reach_of c.push_to_others.new.routes)
    (pushed_to c.args.stepped.now.ordered c.args.newly.now)
    (λ entropy rolling. leads_both c.args.server.now.profile c.args.stepped.now.ordered (but_for c.args.stepped.now.ordered c.args.newly.now) (desk_of entropy c.args.server.now.table rolling) (post_of c.args.connections.now (routes_ended c.args.stepped.now.ended (routes_noted c.args.stepped.now.handled (reach_of c.args.routes.now))) (view_of (g.W.Wire.calls c.args.wire.now) (g.W.Wire.faults c.args.wire.now)))
    (post_of c.push_due.new.connections (reach_of c.push_due.new.routes) (view_of (g.W.Wire.calls c.push_due.new.wire) (g.W.Wire.faults c.push_due.new.wire)))
    (post_of c.push_to_others.new.connections (reach_of c.push_to_others.new.routes) (view_of (g.W.Wire.calls c.push_to_others.new.wire) (g.W.Wire.faults c.push_to_others.new.wire))) (c.in_ok-push_due.ensures.pushes entropy rolling)
    (subst (λ (us : List (List ℕ)). Leads (PushesToAll c.args.server.now.profile (but_for us c.args.newly.now)) (desk_of entropy c.args.server.now.table rolling) (post_of c.push_due.new.connections (reach_of c.push_due.new.routes) (view_of (g.W.Wire.calls c.push_due.new.wire) (g.W.Wire.faults c.push_due.new.wire))) (post_of c.push_to_others.new.connections (reach_of c.push_to_others.new.routes) (view_of (g.W.Wire.calls c.push_to_others.new.wire) (g.W.Wire.faults c.push_to_others.new.wire)))) c.as_slice-ordered.ensures.value (p entropy rolling))))
    c.push_to_others.ensures.pushes

pub returns-clause-part : goal.returns-clause-part
returns-clause-part g c =
    map_err c.push_to_others.result (λ some rollouts.
    led_in_part c.streams_stay_keyed.ensures.keyed c.args.server.now.profile c.args.connections.now c.push_to_others.new.connections (view_of (g.W.Wire.calls c.args.wire.now) (g.W.Wire.faults c.args.wire.now)) (view_of (g.W.Wire.calls c.push_to_others.new.wire) (g.W.Wire.faults c.push_to_others.new.wire)) c.args.server.now.table rollouts c.args.stepped.now (reach_of c.args.routes.now) (reach_of c.push_to_others.new.routes)
    (pushed_to c.args.stepped.now.ordered c.args.newly.now) (reach_of c.push_to_others.new.routes)
    (further_first c.args.server.now.profile c.args.stepped.now.ordered (but_for c.args.stepped.now.ordered c.args.newly.now) c.args.server.now.table (post_of c.args.connections.now (routes_ended c.args.stepped.now.ended (routes_noted c.args.stepped.now.handled (reach_of c.args.routes.now))) (view_of (g.W.Wire.calls c.args.wire.now) (g.W.Wire.faults c.args.wire.now)))
    (post_of c.push_due.new.connections (reach_of c.push_due.new.routes) (view_of (g.W.Wire.calls c.push_due.new.wire) (g.W.Wire.faults c.push_due.new.wire)))
    (post_of c.push_to_others.new.connections (reach_of c.push_to_others.new.routes) (view_of (g.W.Wire.calls c.push_to_others.new.wire) (g.W.Wire.faults c.push_to_others.new.wire))) c.in_ok-push_due.ensures.pushes
    (subst (λ (us : List (List ℕ)). PushesFirst c.args.server.now.profile (but_for us c.args.newly.now) c.args.server.now.table (post_of c.push_due.new.connections (reach_of c.push_due.new.routes) (view_of (g.W.Wire.calls c.push_due.new.wire) (g.W.Wire.faults c.push_due.new.wire))) (post_of c.push_to_others.new.connections (reach_of c.push_to_others.new.routes) (view_of (g.W.Wire.calls c.push_to_others.new.wire) (g.W.Wire.faults c.push_to_others.new.wire)))) c.as_slice-ordered.ensures.value some)))
    c.push_to_others.ensures.some

pub returns-clause-calls : goal.returns-clause-calls
returns-clause-calls g c = on_ok _ c.push_to_others.result (c.calls_join.ensures.joined _ _ _ [] [] c.in_ok-push_due.ensures.calls c.push_to_others.ensures.calls)

pub returns-clause-open : goal.returns-clause-open
returns-clause-open g c = on_ok _ c.push_to_others.result c.push_to_others.ensures.open

pub returns-clause-known : goal.returns-clause-known
returns-clause-known g c = on_ok _ c.push_to_others.result c.push_to_others.ensures.known

pub returns-in_err-push_due-clause-follows : goal.returns-in_err-push_due-clause-follows
returns-in_err-push_due-clause-follows g c = on_refused _ c.from_residual.result c.from_residual.ensures.0

pub returns-in_err-push_due-clause-open : goal.returns-in_err-push_due-clause-open
returns-in_err-push_due-clause-open g c = on_refused _ c.from_residual.result c.from_residual.ensures.0

pub returns-in_err-push_due-clause-known : goal.returns-in_err-push_due-clause-known
returns-in_err-push_due-clause-known g c = on_refused _ c.from_residual.result c.from_residual.ensures.0

pub returns-in_err-push_due-clause-calls : goal.returns-in_err-push_due-clause-calls
returns-in_err-push_due-clause-calls g c = on_refused _ c.from_residual.result c.from_residual.ensures.0
