use Rattle.std.proofs.Common.{◌≡◌, ◌∙◌, sym, false}
use Rattle.std.proofs.Math.Path.{fun_ext}
use Rattle.std.specs.Result.{is_ok}
use Rattle.edge_devices.specs.declared.wires.WireCall.TheVariants.{Sent}
use Rattle.server_sessions.specs.Wiring.{IsDone, IsLost, view_of}
use Rattle.server_deliveries.specs.Views.{reach_of}
use Rattle.server_deliveries.proofs.PushLemmas.{loss_told, lost_leads, sent_leads, told_err, told_ok}
use Rattle.server_deliveries.proofs.Reaching.{known_forgotten}
use Rattle.server_deliveries.proofs.pushing.send_push.Given.{Over}
use Rattle.server_deliveries.proofs.pushing.send_push.Goals as goal

sent : (g : Over) (c : goal.Then-is_ok g) → IsDone (Sent c.args.conn c.args.payload.now) (view_of (g.W.Wire.calls c.args.wire.now) (g.W.Wire.faults c.args.wire.now)) (view_of (g.W.Wire.calls c.send.new.self) (g.W.Wire.faults c.send.new.self))
sent g c = record { told = told_ok c.send.result (sym c.is_ok.ensures.value ∙ c.if-is_ok.true) c.send.ensures.told; count = c.send.ensures.count }

pub returns-then-is_ok-clause-sends : goal.returns-then-is_ok-clause-sends
returns-then-is_ok-clause-sends g c = λ desk.
    sent_leads c.args.connections.now (reach_of c.args.routes.now) (view_of (g.W.Wire.calls c.args.wire.now) (g.W.Wire.faults c.args.wire.now)) (view_of (g.W.Wire.calls c.send.new.self) (g.W.Wire.faults c.send.new.self))
    (record { conn = c.args.conn; payload = c.args.payload.now }) desk (sent g c)

pub returns-then-is_ok-clause-open : goal.returns-then-is_ok-clause-open
returns-then-is_ok-clause-open g c =
    c.known_connections_stay_open.ensures.sent (g.W.Wire.calls c.args.wire.now) (g.W.Wire.calls c.send.new.self) c.args.conn c.args.payload.now c.args.connections.now (sent g c).told c.requires.open

pub returns-then-is_ok-clause-calls : goal.returns-then-is_ok-clause-calls
returns-then-is_ok-clause-calls g c = c.calls_join.ensures.sent _ _ c.args.conn c.args.payload.now (sent g c)

lost : (g : Over) (c : goal.After-forget-2 g) → IsLost c.args.conn (view_of (g.W.Wire.calls c.args.wire.now) (g.W.Wire.faults c.args.wire.now)) (view_of (g.W.Wire.calls c.send.new.self) (g.W.Wire.faults c.send.new.self))
lost g c =
    let failed : is_ok c.send.result ≡ false = sym c.is_ok.ensures.value ∙ c.if-is_ok.false in record {
      told = loss_told (g.W.Wire.calls c.args.wire.now) (g.W.Wire.calls c.send.new.self) c.args.conn (c.requires.open c.args.conn c.requires.own) (told_err c.send.result failed c.send.ensures.lost);
      count = c.send.ensures.count;
      fault = told_err c.send.result failed c.send.ensures.fault;
    }

pub returns-clause-sends : goal.returns-clause-sends
returns-clause-sends g c = λ desk.
    lost_leads c.args.connections.now c.forget-2.new.self (reach_of c.args.routes.now) (reach_of c.forget.new.self) (view_of (g.W.Wire.calls c.args.wire.now) (g.W.Wire.faults c.args.wire.now)) (view_of (g.W.Wire.calls c.send.new.self) (g.W.Wire.faults c.send.new.self))
    (record { conn = c.args.conn; payload = c.args.payload.now }) desk
    (λ streams stands. c.forgotten_streams_end.ensures.stands c.args.conn c.args.connections.now c.forget-2.new.self streams stands c.forget-2.ensures.forgets) (lost g c) (fun_ext c.forget.ensures.forgets)

pub returns-clause-open : goal.returns-clause-open
returns-clause-open g c =
    c.known_connections_stay_open.ensures.forgotten (g.W.Wire.calls c.send.new.self) c.args.conn c.args.connections.now c.forget-2.new.self
    (c.known_connections_stay_open.ensures.lost (g.W.Wire.calls c.args.wire.now) (g.W.Wire.calls c.send.new.self) c.args.conn c.args.connections.now (lost g c).told c.requires.open) c.forget-2.ensures.forgets

pub returns-clause-known : goal.returns-clause-known
returns-clause-known g c = λ uid conn there.
    known_forgotten c.args.conn c.args.connections.now c.forget-2.new.self (reach_of c.args.routes.now) c.requires.known c.forget-2.ensures.forgets uid conn (rw (c.forget.ensures.forgets uid) at there)

pub returns-clause-calls : goal.returns-clause-calls
returns-clause-calls g c = c.calls_join.ensures.lost _ _ c.args.conn (lost g c)
