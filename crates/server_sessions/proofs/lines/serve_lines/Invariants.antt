use Rattle.std.proofs.Common.{◌≡◌, ◌≢◌, ◌++◌, ℕ, length, false}
use Rattle.edge_devices.specs.Wires.{IsOpen}
use Rattle.server_lines.specs.Sights.{numbers_in, sight_of}
use Rattle.server_sessions.specs.Streams.{IsOneLine}
use Rattle.server_sessions.specs.Connections.{LinesServed, scene_at}
use Rattle.server_sessions.specs.Wiring.{view_of}
use Rattle.server_sessions.proofs.lines.serve_lines.Given as goal

abbrev pub invariant-lines : goal.invariant-lines
invariant-lines g l = record {
  stop : l.noted.stop ≡ false;
  opened : IsOpen (g.W.Wire.calls l.wire) l.fn.conn;
  others : (other : ℕ) → other ≢ l.fn.conn → IsOpen (g.W.Wire.calls l.fn.wire) other → IsOpen (g.W.Wire.calls l.wire) other;
  ended : l.noted.ended ≡ l.fn.noted.ended;
  profile : l.desk.server.profile ≡ l.fn.desk.server.profile;
  served : IsOneLine l.fn.front → IsOneLine l.front × LinesServed l.fn.desk.server.profile (sight_of l.fn.seen (numbers_in l.fn.known.entries)) l.fn.conn (l.fn.front ++ l.fn.bytes) (l.front ++ l.left)
      (λ entropy. scene_at (view_of (g.W.Wire.calls l.fn.wire) (g.W.Wire.faults l.fn.wire)) entropy l.fn.desk.server.table l.fn.desk.rollouts l.fn.noted) (λ entropy. scene_at (view_of (g.W.Wire.calls l.wire) (g.W.Wire.faults l.wire)) entropy l.desk.server.table l.desk.rollouts l.noted);
}

abbrev pub decreases-lines : goal.decreases-lines
decreases-lines g l = length l.left
