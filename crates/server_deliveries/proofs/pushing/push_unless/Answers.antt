use Rattle.std.proofs.Common.{◌∙◌, ℕ, List, sym, subst}
use Rattle.server_sessions.specs.Reports.{desk_of}
use Rattle.server_sessions.specs.Wiring.{view_of}
use Rattle.server_deliveries.specs.Pushing.{PushesToAll}
use Rattle.server_deliveries.specs.Turns.{Leads, post_of}
use Rattle.server_deliveries.specs.Views.{reach_of}
use Rattle.server_deliveries.proofs.Others.{but_none, but_one, leads_one, map_ok}
use Rattle.server_deliveries.proofs.PushLemmas.{leads_none}
use Rattle.server_deliveries.proofs.pushing.push_unless.Goals as goal

pub returns-then-is_among-clause-pushes : goal.returns-then-is_among-clause-pushes
returns-then-is_among-clause-pushes g c = λ entropy rollouts.
    subst (λ (us : List (List ℕ)). Leads (PushesToAll c.args.server.now.profile us) (desk_of entropy c.args.server.now.table rollouts) (post_of c.args.connections.now (reach_of c.args.routes.now) (view_of (g.W.Wire.calls c.args.wire.now) (g.W.Wire.faults c.args.wire.now))) (post_of c.args.connections.now (reach_of c.args.routes.now) (view_of (g.W.Wire.calls c.args.wire.now) (g.W.Wire.faults c.args.wire.now))))
    (but_none c.args.others.now c.args.uid.now (sym c.is_among.ensures.among ∙ c.if-is_among.true)) (leads_none c.args.server.now.profile (desk_of entropy c.args.server.now.table rollouts) (post_of c.args.connections.now (reach_of c.args.routes.now) (view_of (g.W.Wire.calls c.args.wire.now) (g.W.Wire.faults c.args.wire.now))))

pub returns-then-is_among-clause-calls : goal.returns-then-is_among-clause-calls
returns-then-is_among-clause-calls g c = c.calls_join.ensures.none _

pub returns-clause-pushes : goal.returns-clause-pushes
returns-clause-pushes g c =
    map_ok c.push_to.result (λ p entropy rollouts.
    subst (λ (us : List (List ℕ)). Leads (PushesToAll c.args.server.now.profile us) (desk_of entropy c.args.server.now.table rollouts) (post_of c.args.connections.now (reach_of c.args.routes.now) (view_of (g.W.Wire.calls c.args.wire.now) (g.W.Wire.faults c.args.wire.now)))
    (post_of c.push_to.new.connections (reach_of c.push_to.new.routes) (view_of (g.W.Wire.calls c.push_to.new.wire) (g.W.Wire.faults c.push_to.new.wire))))
    (but_one c.args.others.now c.args.uid.now (sym c.is_among.ensures.among ∙ c.if-is_among.false))
    (leads_one c.args.server.now.profile c.args.uid.now (desk_of entropy c.args.server.now.table rollouts) (post_of c.args.connections.now (reach_of c.args.routes.now) (view_of (g.W.Wire.calls c.args.wire.now) (g.W.Wire.faults c.args.wire.now)))
    (post_of c.push_to.new.connections (reach_of c.push_to.new.routes) (view_of (g.W.Wire.calls c.push_to.new.wire) (g.W.Wire.faults c.push_to.new.wire))) (p entropy rollouts)))
    c.push_to.ensures.pushes
