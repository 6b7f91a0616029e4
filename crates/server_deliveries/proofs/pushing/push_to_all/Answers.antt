use Rattle.std.proofs.Common.{◌≡◌, ◌∙◌, ℕ, List, [], take, length, ap, subst, arith}
use Rattle.std.proofs.Math.Seq.{take-length}
use Rattle.server_sessions.specs.Reports.{desk_of}
use Rattle.server_sessions.specs.Wiring.{view_of}
use Rattle.server_deliveries.specs.Pushing.{PushesToAll}
use Rattle.server_deliveries.specs.Turns.{Leads, PushesFirst, post_of}
use Rattle.server_deliveries.specs.Views.{reach_of}
use Rattle.server_deliveries.proofs.PushLemmas.{leads_more, leads_none, on_err}
use Rattle.server_deliveries.proofs.pushing.push_to_all.Goals as goal

pub loop-uid-init : goal.loop-uid-init
loop-uid-init g c = record {
  pushes = λ entropy rollouts. leads_none c.args.server.now.profile (desk_of entropy c.args.server.now.table rollouts) (post_of c.args.connections.now (reach_of c.args.routes.now) (view_of (g.W.Wire.calls c.args.wire.now) (g.W.Wire.faults c.args.wire.now)));
  opened = c.requires.open;
  known = c.requires.known;
  calls = c.calls_join.ensures.none _;
}

pub returns-in_err-push_to-clause-calls : goal.returns-in_err-push_to-clause-calls
returns-in_err-push_to-clause-calls g c = c.calls_join.ensures.joined _ _ _ [] [] c.loop-uid.invariant.calls c.push_to.ensures.calls

pub loop-uid-preserved : goal.loop-uid-preserved
loop-uid-preserved g c = record {
  pushes = λ entropy rollouts. leads_more c.args.server.now.profile c.args.uids.now c.loop-uid.uid-index c.uid-item.result (desk_of entropy c.args.server.now.table rollouts)
      (post_of c.args.connections.now (reach_of c.args.routes.now) (view_of (g.W.Wire.calls c.args.wire.now) (g.W.Wire.faults c.args.wire.now)))
      (post_of c.loop-uid.connections (reach_of c.loop-uid.routes) (view_of (g.W.Wire.calls c.loop-uid.wire) (g.W.Wire.faults c.loop-uid.wire)))
      (post_of c.push_to.new.connections (reach_of c.push_to.new.routes) (view_of (g.W.Wire.calls c.push_to.new.wire) (g.W.Wire.faults c.push_to.new.wire)))
      c.loop-uid-test.true c.uid-item.is (c.loop-uid.invariant.pushes entropy rollouts) (c.in_ok-push_to.ensures.pushes entropy rollouts);
  opened = c.push_to.ensures.open;
  known = c.push_to.ensures.known;
  calls = c.calls_join.ensures.joined _ _ _ [] [] c.loop-uid.invariant.calls c.push_to.ensures.calls;
}

pub returns-clause-pushes : goal.returns-clause-pushes
returns-clause-pushes g c = λ entropy rollouts.
    let all : c.loop-uid.uid-index ≡ length c.args.uids.now = omega (arith, c.loop-uid.auto.uid-index-end, c.loop-uid-test.false) in
    subst (λ (us : List (List ℕ)). Leads (PushesToAll c.args.server.now.profile us) (desk_of entropy c.args.server.now.table rollouts)
    (post_of c.args.connections.now (reach_of c.args.routes.now) (view_of (g.W.Wire.calls c.args.wire.now) (g.W.Wire.faults c.args.wire.now)))
    (post_of c.loop-uid.connections (reach_of c.loop-uid.routes) (view_of (g.W.Wire.calls c.loop-uid.wire) (g.W.Wire.faults c.loop-uid.wire))))
    (ap (λ (n : ℕ). take n c.args.uids.now) all ∙ take-length c.args.uids.now) (c.loop-uid.invariant.pushes entropy rollouts)

-- the pushes to the agents before one for which memory was wanting went out
pub returns-in_err-push_to-clause-some : goal.returns-in_err-push_to-clause-some
returns-in_err-push_to-clause-some g c =
    let unsent = c.in_err-push_to.ensures.unsent in
    let first : PushesFirst c.args.server.now.profile c.args.uids.now c.args.server.now.table (post_of c.args.connections.now (reach_of c.args.routes.now) (view_of (g.W.Wire.calls c.args.wire.now) (g.W.Wire.faults c.args.wire.now)))
    (post_of c.push_to.new.connections (reach_of c.push_to.new.routes) (view_of (g.W.Wire.calls c.push_to.new.wire) (g.W.Wire.faults c.push_to.new.wire))) =
    (c.loop-uid.uid-index, rw (unsent.0, unsent.1, unsent.2) c.loop-uid.invariant.pushes) in
    on_err _ c.from_residual.result first
