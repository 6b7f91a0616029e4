use Rattle.std.proofs.Common.{◌-◌, ◌≡◌, ◌≤◌, false}
use Rattle.server_sessions.specs.Reports.{desk_of, host_of}
use Rattle.server_sessions.specs.Wiring.{view_of}
use Rattle.server_sessions.specs.Behind.{HasServedBy, looking}
use Rattle.server_sessions.specs.Connections.{AreOpen}
use Rattle.server_sessions.specs.Journaling.{Journaling, journaled}
use Rattle.server_sessions.specs.Sessions.{site_of}
use Rattle.server_sessions.proofs.serving.serve_noting.Given as goal

-- what was served so far
abbrev pub invariant-loop-taken : goal.invariant-loop-taken
invariant-loop-taken g l = record {
  within : l.taken ≤ l.turns;
  served : HasServedBy (Journaling l.fn.journal g.B.Behind.follows) (host_of (λ b. (goal.Handler-dyn g b).answers b.1) l.fn.desk.server.profile l.fn.handlers) l.taken (looking l.connections l.seen)
      (site_of (view_of (g.W.Wire.calls l.fn.wire) (g.W.Wire.faults l.fn.wire)) (desk_of (g.E.Entropy.state l.fn.entropy) l.fn.desk.server.table l.fn.desk.rollouts) (journaled (g.B.Behind.kept l.fn.behind) 0 (record { taken = g.N.Sink.taken l.fn.notes; faults = g.N.Sink.faults l.fn.notes })))
      (site_of (view_of (g.W.Wire.calls l.wire) (g.W.Wire.faults l.wire)) (desk_of (g.E.Entropy.state l.entropy) l.desk.server.table l.desk.rollouts) (journaled (g.B.Behind.kept l.behind) l.taken (record { taken = g.N.Sink.taken l.notes; faults = g.N.Sink.faults l.notes })));
  opened : AreOpen (g.W.Wire.calls l.wire) l.connections;
  fits : g.B.Behind.fits l.behind l.connections l.desk.server.table l.desk.rollouts;
  keeps : g.B.Behind.keeps l.fn.behind l.behind;
  profile : l.desk.server.profile ≡ l.fn.desk.server.profile;
  silent : l.journal ≡ false → l.notes ≡ l.fn.notes;
}

abbrev pub decreases-loop-taken : goal.decreases-loop-taken
decreases-loop-taken g l = l.turns - l.taken
