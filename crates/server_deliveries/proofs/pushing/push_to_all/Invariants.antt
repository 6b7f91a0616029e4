use Rattle.std.proofs.Common.{List, [], take}
use Rattle.edge_devices.specs.Clocks.{EntropyState}
use Rattle.server_waves.specs.Register.{Rolling}
use Rattle.server_sessions.specs.Reports.{desk_of}
use Rattle.server_sessions.specs.Wiring.{view_of}
use Rattle.server_sessions.specs.Connections.{AreOpen}
use Rattle.server_sessions.specs.Runs.{Gives}
use Rattle.server_deliveries.specs.Pushing.{PushesToAll}
use Rattle.server_deliveries.specs.Turns.{AreKnown, Leads, post_of}
use Rattle.server_deliveries.specs.Views.{reach_of}
use Rattle.server_deliveries.proofs.pushing.push_to_all.Given as goal

-- the pushes to the agents so far went out
abbrev pub invariant-loop-uid : goal.invariant-loop-uid
invariant-loop-uid g l = record {
  pushes : (entropy : EntropyState) (rollouts : List Rolling) → Leads (PushesToAll l.server.profile (take l.uid-index l.uids)) (desk_of entropy l.server.table rollouts)
      (post_of l.fn.connections (reach_of l.fn.routes) (view_of (g.W.Wire.calls l.fn.wire) (g.W.Wire.faults l.fn.wire)))
      (post_of l.connections (reach_of l.routes) (view_of (g.W.Wire.calls l.wire) (g.W.Wire.faults l.wire)));
  opened : AreOpen (g.W.Wire.calls l.wire) l.connections;
  known : AreKnown l.connections (reach_of l.routes);
  calls : Gives (view_of (g.W.Wire.calls l.fn.wire) (g.W.Wire.faults l.fn.wire)) (view_of (g.W.Wire.calls l.wire) (g.W.Wire.faults l.wire)) [];
}
