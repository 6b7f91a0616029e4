use Rattle.std.proofs.Common.{ap, inl, inr, refl, subst}
use Rattle.message_handlers.specs.Asking.{MayAnswer}
use Rattle.message_handlers.specs.Names.{names_of}
use Rattle.server_sessions.specs.Wiring.{view_of}
use Rattle.server_deliveries.specs.Deliveries.{anew, delivered_of}
use Rattle.edge_notes.specs.Noted.{IsNoted}
use Rattle.command_serve.specs.Notes.{listening_line}
use Rattle.command_serve.proofs.Endings.{stopped_last}
use Rattle.command_serve.proofs.Served.{run_ends}
use Rattle.command_serve.proofs.serving.serve_all.Goals as goal

pub returns-in-Ok-clause-ends : goal.returns-in-Ok-clause-ends
returns-in-Ok-clause-ends g c =
    run_ends (names_of c.args.handlers.now) (MayAnswer (λ b. (goal.Handler-dyn g b).answers b.1) c.args.handlers.now) c.args.options.now c.args.desk.now.server.profile (view_of (g.W.Wire.calls c.args.wire.now) (g.W.Wire.faults c.args.wire.now)) (view_of (g.W.Wire.calls c.listen_all.new.wire) (g.W.Wire.faults c.listen_all.new.wire)) (view_of (g.W.Wire.calls c.serve_delivering-ending.new.wire) (g.W.Wire.faults c.serve_delivering-ending.new.wire)) (g.E.Entropy.state c.args.entropy.now) (g.E.Entropy.state c.serve_delivering-ending.new.entropy) c.serve_delivering-ending.new.desk.server.table (record { rollouts = c.args.desk.now.rollouts; delivered = anew (delivered_of g.J.Judge.finds_fine c.args.delivery.now) }) (record { rollouts = c.serve_delivering-ending.new.desk.rollouts; delivered = delivered_of g.J.Judge.finds_fine c.serve_delivering-ending.new.delivery })
    c.requires.profile c.in-Ok.ensures.listens c.sessions_keep_width.ensures.width c.rollouts_keep_width.ensures.points
    c.args.desk.now.server.table c.requires.table c.serve_delivering-ending.result c.serve_delivering-ending.ensures.ends

pub returns-in-Ok-clause-stops_last : goal.returns-in-Ok-clause-stops_last
returns-in-Ok-clause-stops_last g c =
    stopped_last (names_of c.args.handlers.now) (MayAnswer (λ b. (goal.Handler-dyn g b).answers b.1) c.args.handlers.now) c.args.options.now (record { rollouts = c.args.desk.now.rollouts; delivered = anew (delivered_of g.J.Judge.finds_fine c.args.delivery.now) }) (view_of (g.W.Wire.calls c.args.wire.now) (g.W.Wire.faults c.args.wire.now)) (view_of (g.W.Wire.calls c.serve_delivering-ending.new.wire) (g.W.Wire.faults c.serve_delivering-ending.new.wire)) (g.E.Entropy.state c.args.entropy.now) (g.E.Entropy.state c.serve_delivering-ending.new.entropy) c.args.desk.now.server.profile c.requires.profile c.runs_have_one_ending.ensures.stop c.deliveries_have_cases.ensures.nothing_only c.server_sessions_are_cases.ensures.only
    (record { rollouts = c.serve_delivering-ending.new.desk.rollouts; delivered = delivered_of g.J.Judge.finds_fine c.serve_delivering-ending.new.delivery }) c.serve_delivering-ending.result (returns-in-Ok-clause-ends g c)

-- what is noted where the addresses are listened to
pub returns-in-Ok-clause-noted : goal.returns-in-Ok-clause-noted
returns-in-Ok-clause-noted g c = inl (record {
  wire = (view_of (g.W.Wire.calls c.listen_all.new.wire) (g.W.Wire.faults c.listen_all.new.wire));
  listens = c.in-Ok.ensures.listens;
  between = (record { taken = g.N.Sink.taken c.note_listening.new.notes; faults = g.N.Sink.faults c.note_listening.new.notes });
  listening = subst (λ notes. IsNoted (listening_line c.args.options.now) (record { taken = g.N.Sink.taken notes; faults = g.N.Sink.faults notes }) (record { taken = g.N.Sink.taken c.note_listening.new.notes; faults = g.N.Sink.faults c.note_listening.new.notes })) c.in-Ok.ensures.silent c.note_listening.ensures.noted;
  later = (record { taken = g.N.Sink.taken c.serve_delivering-ending.new.notes; faults = g.N.Sink.faults c.serve_delivering-ending.new.notes });
  run = record {
    profile = c.args.desk.now.server.profile;
    first = record { rollouts = c.args.desk.now.rollouts; delivered = anew (delivered_of g.J.Judge.finds_fine c.args.delivery.now) };
    last = record { rollouts = c.serve_delivering-ending.new.desk.rollouts; delivered = delivered_of g.J.Judge.finds_fine c.serve_delivering-ending.new.delivery };
    table = c.args.desk.now.server.table;
    table' = c.serve_delivering-ending.new.desk.server.table;
    entropy = g.E.Entropy.state c.args.entropy.now;
    entropy' = g.E.Entropy.state c.serve_delivering-ending.new.entropy;
    count = c.serve_delivering-ending.ensures.journals.0;
    result = c.serve_delivering-ending.result;
    journals = c.serve_delivering-ending.ensures.journals.1;
    silent = λ off. ap (λ notes. record { taken = g.N.Sink.taken notes; faults = g.N.Sink.faults notes }) (c.serve_delivering-ending.ensures.silent off);
  };
  last = c.note_sockets.ensures.noted;
})

pub returns-in-Err-clause-noted : goal.returns-in-Err-clause-noted
returns-in-Err-clause-noted g c = inr (refl, c.in-Err.ensures.noted)
