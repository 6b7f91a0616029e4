use Rattle.std.proofs.Common.{◌≡◌, ◌≢◌, ℕ, length}
use Rattle.edge_devices.specs.Wires.{IsOpen}
use Rattle.server_sessions.specs.Reports.{host_of}
use Rattle.server_sessions.specs.Wiring.{view_of}
use Rattle.server_sessions.specs.Connections.{PartsServed, scene_at}
use Rattle.server_sessions.proofs.requests.serve_parts.Given as goal

-- what was handled so far
abbrev pub invariant-parts : goal.invariant-parts
invariant-parts g l = record {
  served : PartsServed (host_of (λ b. (goal.Handler-dyn g b).answers b.1) l.fn.desk.server.profile l.fn.handlers) l.fn.conn l.fn.reader l.reader
      (scene_at (view_of (g.W.Wire.calls l.fn.wire) (g.W.Wire.faults l.fn.wire)) (g.E.Entropy.state l.fn.entropy) l.fn.desk.server.table l.fn.desk.rollouts l.fn.noted)
      (scene_at (view_of (g.W.Wire.calls l.wire) (g.W.Wire.faults l.wire)) (g.E.Entropy.state l.entropy) l.desk.server.table l.desk.rollouts l.noted);
  opened : IsOpen (g.W.Wire.calls l.wire) l.fn.conn;
  others : (other : ℕ) → other ≢ l.fn.conn → IsOpen (g.W.Wire.calls l.fn.wire) other → IsOpen (g.W.Wire.calls l.wire) other;
  noted : l.noted ≡ record l.fn.noted { handled = l.noted.handled };
  profile : l.desk.server.profile ≡ l.fn.desk.server.profile;
}

abbrev pub decreases-parts : goal.decreases-parts
decreases-parts g l = length l.reader.parts.ready
