use Rattle.std.proofs.Common.{◌≡◌, ◌∙◌, ℕ, List, [], ◌∷◌, take, length, drop, ap, sym, subst, arith}
use Rattle.std.proofs.Math.Seq.{take-length}
use Rattle.server_sessions.specs.Reports.{desk_of}
use Rattle.server_sessions.specs.Wiring.{view_of}
use Rattle.server_deliveries.specs.Pushing.{PushesToAll, but_for}
use Rattle.server_deliveries.specs.Turns.{Leads, PushesFirst, post_of}
use Rattle.server_deliveries.specs.Views.{reach_of}
use Rattle.server_deliveries.proofs.Others.{but_more, but_parts, leads_both, some_first}
use Rattle.server_deliveries.proofs.PushLemmas.{leads_none, on_err}
use Rattle.server_deliveries.proofs.pushing.push_to_others.Goals as goal

pub loop-uid-init : goal.loop-uid-init
loop-uid-init g c = record {
  pushes = λ entropy rollouts. leads_none c.args.server.now.profile (desk_of entropy c.args.server.now.table rollouts) (post_of c.args.connections.now (reach_of c.args.routes.now) (view_of (g.W.Wire.calls c.args.wire.now) (g.W.Wire.faults c.args.wire.now)));
  opened = c.requires.open;
  known = c.requires.known;
  calls = c.calls_join.ensures.none _;
}

pub returns-in_err-push_unless-clause-calls : goal.returns-in_err-push_unless-clause-calls
returns-in_err-push_unless-clause-calls g c = c.calls_join.ensures.joined _ _ _ [] [] c.loop-uid.invariant.calls c.push_unless.ensures.calls

pub loop-uid-preserved : goal.loop-uid-preserved
loop-uid-preserved g c = record {
  pushes = λ entropy rollouts.
      subst (λ (us : List (List ℕ)). Leads (PushesToAll c.args.server.now.profile us) (desk_of entropy c.args.server.now.table rollouts)
      (post_of c.args.connections.now (reach_of c.args.routes.now) (view_of (g.W.Wire.calls c.args.wire.now) (g.W.Wire.faults c.args.wire.now)))
      (post_of c.push_unless.new.connections (reach_of c.push_unless.new.routes) (view_of (g.W.Wire.calls c.push_unless.new.wire) (g.W.Wire.faults c.push_unless.new.wire))))
      (sym (but_more c.args.others.now c.args.uids.now c.loop-uid.uid-index c.uid-item.result c.loop-uid-test.true c.uid-item.is))
      (leads_both c.args.server.now.profile (but_for c.args.others.now (take c.loop-uid.uid-index c.args.uids.now)) (but_for c.args.others.now (c.uid-item.result ∷ [])) (desk_of entropy c.args.server.now.table rollouts)
      (post_of c.args.connections.now (reach_of c.args.routes.now) (view_of (g.W.Wire.calls c.args.wire.now) (g.W.Wire.faults c.args.wire.now)))
      (post_of c.loop-uid.connections (reach_of c.loop-uid.routes) (view_of (g.W.Wire.calls c.loop-uid.wire) (g.W.Wire.faults c.loop-uid.wire)))
      (post_of c.push_unless.new.connections (reach_of c.push_unless.new.routes) (view_of (g.W.Wire.calls c.push_unless.new.wire) (g.W.Wire.faults c.push_unless.new.wire)))
      (c.loop-uid.invariant.pushes entropy rollouts) (c.in_ok-push_unless.ensures.pushes entropy rollouts));
  opened = c.push_unless.ensures.open;
  known = c.push_unless.ensures.known;
  calls = c.calls_join.ensures.joined _ _ _ [] [] c.loop-uid.invariant.calls c.push_unless.ensures.calls;
}

pub returns-clause-pushes : goal.returns-clause-pushes
returns-clause-pushes g c = λ entropy rollouts.
    let all : c.loop-uid.uid-index ≡ length c.args.uids.now = omega (arith, c.loop-uid.auto.uid-index-end, c.loop-uid-test.false) in
    subst (λ (us : List (List ℕ)). Leads (PushesToAll c.args.server.now.profile (but_for c.args.others.now us)) (desk_of entropy c.args.server.now.table rollouts)
    (post_of c.args.connections.now (reach_of c.args.routes.now) (view_of (g.W.Wire.calls c.args.wire.now) (g.W.Wire.faults c.args.wire.now)))
    (post_of c.loop-uid.connections (reach_of c.loop-uid.routes) (view_of (g.W.Wire.calls c.loop-uid.wire) (g.W.Wire.faults c.loop-uid.wire))))
    (ap (λ (n : ℕ). take n c.args.uids.now) all ∙ take-length c.args.uids.now) (c.loop-uid.invariant.pushes entropy rollouts)

-- the pushes to the agents before one for which memory was wanting went out
pub returns-in_err-push_unless-clause-some : goal.returns-in_err-push_unless-clause-some
returns-in_err-push_unless-clause-some g c =
    let unsent = c.in_err-push_unless.ensures.unsent in
    let first : PushesFirst c.args.server.now.profile (but_for c.args.others.now c.args.uids.now) c.args.server.now.table (post_of c.args.connections.now (reach_of c.args.routes.now) (view_of (g.W.Wire.calls c.args.wire.now) (g.W.Wire.faults c.args.wire.now)))
    (post_of c.push_unless.new.connections (reach_of c.push_unless.new.routes) (view_of (g.W.Wire.calls c.push_unless.new.wire) (g.W.Wire.faults c.push_unless.new.wire))) =
    some_first c.args.server.now.profile (but_for c.args.others.now c.args.uids.now) (but_for c.args.others.now (take c.loop-uid.uid-index c.args.uids.now)) (but_for c.args.others.now (drop c.loop-uid.uid-index c.args.uids.now)) c.args.server.now.table
    (post_of c.args.connections.now (reach_of c.args.routes.now) (view_of (g.W.Wire.calls c.args.wire.now) (g.W.Wire.faults c.args.wire.now)))
    (post_of c.push_unless.new.connections (reach_of c.push_unless.new.routes) (view_of (g.W.Wire.calls c.push_unless.new.wire) (g.W.Wire.faults c.push_unless.new.wire)))
    (but_parts c.args.others.now c.args.uids.now c.loop-uid.uid-index) (rw (unsent.0, unsent.1, unsent.2) c.loop-uid.invariant.pushes) in
    on_err _ c.from_residual.result first
