use Rattle.std.proofs.Common.{sym, ◌∙◌}
use Rattle.server_sessions.specs.Wiring.{view_of}
use Rattle.server_sessions.proofs.LoopLemmas.{admits_known, admits_full, admits_new}
use Rattle.server_sessions.proofs.connections.Connections.admit.Goals as goal

pub returns-then-contains_key-clause-admits : goal.returns-then-contains_key-clause-admits
returns-then-contains_key-clause-admits g c =
    admits_known c.args.limit c.args.conn c.args.kind c.self.inside.known.entries c.args.self.now (view_of (g.W.Wire.calls c.args.wire.now) (g.W.Wire.faults c.args.wire.now)) c.self.view_is
    (sym c.contains_key.ensures ∙ c.if-contains_key.true)

pub returns-then-len-limit-clause-admits : goal.returns-then-len-limit-clause-admits
returns-then-len-limit-clause-admits g c =
    admits_full c.args.limit c.args.conn c.args.kind c.self.inside.known.entries c.args.self.now (view_of (g.W.Wire.calls c.args.wire.now) (g.W.Wire.faults c.args.wire.now)) (view_of (g.W.Wire.calls c.close_open.new.wire) (g.W.Wire.faults c.close_open.new.wire)) c.self.view_is
    (sym c.contains_key.ensures ∙ c.if-contains_key.false) (rw c.len.ensures.len at c.if-len-limit.true) c.close_open.ensures.done

pub returns-clause-admits : goal.returns-clause-admits
returns-clause-admits g c =
    admits_new c.args.limit c.args.conn c.args.kind c.self.inside.known.entries c.args.self.now c.insert.new.self.entries c.kept_for.result (view_of (g.W.Wire.calls c.args.wire.now) (g.W.Wire.faults c.args.wire.now)) c.self.view_is
    (sym c.contains_key.ensures ∙ c.if-contains_key.false) (rw c.len.ensures.len at c.if-len-limit.false) c.in_ok-insert.ensures.entries c.kept_for.ensures
