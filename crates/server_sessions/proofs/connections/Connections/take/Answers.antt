use Rattle.std.proofs.Common.{refl}
use Rattle.server_sessions.specs.Connections.{scene_at}
use Rattle.server_sessions.specs.Reports.{host_of}
use Rattle.server_sessions.specs.Wiring.{view_of}
use Rattle.server_sessions.proofs.PieceLemmas.{lines_go_on, lines_known, lines_taken, served_taken}
use Rattle.server_sessions.proofs.connections.Connections.take.Goals as goal

pub returns-in-Served-clause-takes : goal.returns-in-Served-clause-takes
returns-in-Served-clause-takes g c =
    served_taken (host_of (λ b. (goal.Handler-dyn g b).answers b.1) c.args.desk.now.server.profile c.args.handlers.now) c.args.conn c.args.bytes.now c.args.self.now c.take_first.new.self
    (scene_at (view_of (g.W.Wire.calls c.args.wire.now) (g.W.Wire.faults c.args.wire.now)) (g.E.Entropy.state c.args.entropy.now) c.args.desk.now.server.table c.args.desk.now.rollouts c.args.noted.now)
    (scene_at (view_of (g.W.Wire.calls c.take_first.new.wire) (g.W.Wire.faults c.take_first.new.wire)) (g.E.Entropy.state c.take_first.new.entropy) c.take_first.new.desk.server.table c.take_first.new.desk.rollouts c.take_first.new.noted)
    c.take_first.new.noted.stop c.args.seen.now c.in-Served.stays c.in-Served.ensures.takes

pub take_lines-requires-clause-known : goal.take_lines-requires-clause-known
take_lines-requires-clause-known g c =
    c.take_first.ensures.still c.args.conn (lines_known (host_of (λ b. (goal.Handler-dyn g b).answers b.1) c.args.desk.now.server.profile c.args.handlers.now) c.args.conn c.args.bytes.now c.args.self.now c.take_first.new.self
    (scene_at (view_of (g.W.Wire.calls c.args.wire.now) (g.W.Wire.faults c.args.wire.now)) (g.E.Entropy.state c.args.entropy.now) c.args.desk.now.server.table c.args.desk.now.rollouts c.args.noted.now)
    (scene_at (view_of (g.W.Wire.calls c.take_first.new.wire) (g.W.Wire.faults c.take_first.new.wire)) (g.E.Entropy.state c.take_first.new.entropy) c.take_first.new.desk.server.table c.take_first.new.desk.rollouts c.take_first.new.noted)
    c.take_first.new.noted.stop c.in-Lines.front c.in-Lines.ensures.takes)

pub take_lines-requires-clause-open : goal.take_lines-requires-clause-open
take_lines-requires-clause-open g c =
    (c.in-Lines.ensures.open (lines_known (host_of (λ b. (goal.Handler-dyn g b).answers b.1) c.args.desk.now.server.profile c.args.handlers.now) c.args.conn c.args.bytes.now c.args.self.now c.take_first.new.self
    (scene_at (view_of (g.W.Wire.calls c.args.wire.now) (g.W.Wire.faults c.args.wire.now)) (g.E.Entropy.state c.args.entropy.now) c.args.desk.now.server.table c.args.desk.now.rollouts c.args.noted.now)
    (scene_at (view_of (g.W.Wire.calls c.take_first.new.wire) (g.W.Wire.faults c.take_first.new.wire)) (g.E.Entropy.state c.take_first.new.entropy) c.take_first.new.desk.server.table c.take_first.new.desk.rollouts c.take_first.new.noted)
    c.take_first.new.noted.stop c.in-Lines.front c.in-Lines.ensures.takes)).1 refl

pub take_lines-requires-clause-stop : goal.take_lines-requires-clause-stop
take_lines-requires-clause-stop g c =
    lines_go_on (host_of (λ b. (goal.Handler-dyn g b).answers b.1) c.args.desk.now.server.profile c.args.handlers.now) c.args.conn c.args.bytes.now c.args.self.now c.take_first.new.self
    (scene_at (view_of (g.W.Wire.calls c.args.wire.now) (g.W.Wire.faults c.args.wire.now)) (g.E.Entropy.state c.args.entropy.now) c.args.desk.now.server.table c.args.desk.now.rollouts c.args.noted.now)
    (scene_at (view_of (g.W.Wire.calls c.take_first.new.wire) (g.W.Wire.faults c.take_first.new.wire)) (g.E.Entropy.state c.take_first.new.entropy) c.take_first.new.desk.server.table c.take_first.new.desk.rollouts c.take_first.new.noted)
    c.take_first.new.noted.stop c.in-Lines.front c.in-Lines.ensures.takes

pub returns-in-Lines-clause-takes : goal.returns-in-Lines-clause-takes
returns-in-Lines-clause-takes g c =
    lines_taken c.args.desk.now.server.profile (host_of (λ b. (goal.Handler-dyn g b).answers b.1) c.args.desk.now.server.profile c.args.handlers.now).answers c.args.seen.now c.args.conn c.args.bytes.now c.in-Lines.front c.args.self.now c.take_first.new.self c.take_lines.new.self
    (scene_at (view_of (g.W.Wire.calls c.args.wire.now) (g.W.Wire.faults c.args.wire.now)) (g.E.Entropy.state c.args.entropy.now) c.args.desk.now.server.table c.args.desk.now.rollouts c.args.noted.now)
    (scene_at (view_of (g.W.Wire.calls c.take_first.new.wire) (g.W.Wire.faults c.take_first.new.wire)) (g.E.Entropy.state c.take_first.new.entropy) c.take_first.new.desk.server.table c.take_first.new.desk.rollouts c.take_first.new.noted)
    (scene_at (view_of (g.W.Wire.calls c.take_lines.new.wire) (g.W.Wire.faults c.take_lines.new.wire)) (g.E.Entropy.state c.take_first.new.entropy) c.take_lines.new.desk.server.table c.take_lines.new.desk.rollouts c.take_lines.new.noted)
    c.take_first.new.noted.stop (record { stays = c.take_lines.result; stop = c.take_lines.new.noted.stop }) c.in-Lines.ensures.takes
    (rw c.take_first.ensures.profile at (c.take_lines.ensures.takes (g.E.Entropy.state c.take_first.new.entropy)))

pub returns-in-Lines-clause-known : goal.returns-in-Lines-clause-known
returns-in-Lines-clause-known g c = λ other there. c.take_first.ensures.known other (c.take_lines.ensures.known other there)

pub returns-in-Lines-clause-still : goal.returns-in-Lines-clause-still
returns-in-Lines-clause-still g c = λ other there. c.take_lines.ensures.still other (c.take_first.ensures.still other there)

pub returns-in-Lines-clause-open : goal.returns-in-Lines-clause-open
returns-in-Lines-clause-open g c = λ there.
    let first = c.in-Lines.ensures.open there in
    (λ other apart was. c.take_lines.ensures.open.0 other apart (first.0 other apart was), c.take_lines.ensures.open.1)
