use Rattle.std.proofs.Common.{◌∙◌, subst}
use Rattle.server_sessions.specs.Wiring.{view_of}
use Rattle.edge_notes.specs.Noted.{IsNoted}
use Rattle.command_serve.specs.Notes.{address_line}
use Rattle.command_serve.proofs.Listening.{first_fails, first_noted, second_fails, second_noted, third_fails, third_noted}
use Rattle.command_serve.proofs.serving.listen_all.Goals as goal

pub returns-in-Err-clause-failed : goal.returns-in-Err-clause-failed
returns-in-Err-clause-failed g c =
    first_fails c.args.options.now (view_of (g.W.Wire.calls c.args.wire.now) (g.W.Wire.faults c.args.wire.now)) (view_of (g.W.Wire.calls c.listen.new.wire) (g.W.Wire.faults c.listen.new.wire)) c.in-Err.ensures.failed

pub returns-in-Err-listen-clause-failed : goal.returns-in-Err-listen-clause-failed
returns-in-Err-listen-clause-failed g c =
    second_fails c.args.options.now (view_of (g.W.Wire.calls c.args.wire.now) (g.W.Wire.faults c.args.wire.now)) (view_of (g.W.Wire.calls c.listen.new.wire) (g.W.Wire.faults c.listen.new.wire)) (view_of (g.W.Wire.calls c.listen-2.new.wire) (g.W.Wire.faults c.listen-2.new.wire)) c.in-Ok.ensures.done c.in-Err-listen.ensures.failed

pub returns-in-Err-listen-2-clause-failed : goal.returns-in-Err-listen-2-clause-failed
returns-in-Err-listen-2-clause-failed g c =
    third_fails c.args.options.now (view_of (g.W.Wire.calls c.args.wire.now) (g.W.Wire.faults c.args.wire.now)) (view_of (g.W.Wire.calls c.listen.new.wire) (g.W.Wire.faults c.listen.new.wire)) (view_of (g.W.Wire.calls c.listen-2.new.wire) (g.W.Wire.faults c.listen-2.new.wire)) (view_of (g.W.Wire.calls c.listen-3.new.wire) (g.W.Wire.faults c.listen-3.new.wire)) c.in-Ok.ensures.done c.in-Ok-listen.ensures.done c.in-Err-listen-2.ensures.failed

-- ---- what is noted

pub returns-in-Err-clause-noted : goal.returns-in-Err-clause-noted
returns-in-Err-clause-noted g c = first_noted c.args.options.now (view_of (g.W.Wire.calls c.args.wire.now) (g.W.Wire.faults c.args.wire.now)) (view_of (g.W.Wire.calls c.listen.new.wire) (g.W.Wire.faults c.listen.new.wire)) c.in-Err.fault _ _ c.in-Err.ensures.failed c.in-Err.ensures.noted

pub returns-in-Err-listen-clause-noted : goal.returns-in-Err-listen-clause-noted
returns-in-Err-listen-clause-noted g c =
    let noted = subst (λ notes. IsNoted (address_line c.args.options.now.ws c.in-Err-listen.fault) (record { taken = g.N.Sink.taken notes; faults = g.N.Sink.faults notes }) (record { taken = g.N.Sink.taken c.listen-2.new.notes; faults = g.N.Sink.faults c.listen-2.new.notes })) c.in-Ok.ensures.silent c.in-Err-listen.ensures.noted in
    second_noted c.args.options.now (view_of (g.W.Wire.calls c.args.wire.now) (g.W.Wire.faults c.args.wire.now)) (view_of (g.W.Wire.calls c.listen.new.wire) (g.W.Wire.faults c.listen.new.wire)) (view_of (g.W.Wire.calls c.listen-2.new.wire) (g.W.Wire.faults c.listen-2.new.wire)) c.in-Err-listen.fault _ _ c.in-Ok.ensures.done c.in-Err-listen.ensures.failed noted

pub returns-in-Err-listen-2-clause-noted : goal.returns-in-Err-listen-2-clause-noted
returns-in-Err-listen-2-clause-noted g c =
    let silent = c.in-Ok-listen.ensures.silent ∙ c.in-Ok.ensures.silent in
    let noted = subst (λ notes. IsNoted (address_line c.args.options.now.operator c.in-Err-listen-2.fault) (record { taken = g.N.Sink.taken notes; faults = g.N.Sink.faults notes }) (record { taken = g.N.Sink.taken c.listen-3.new.notes; faults = g.N.Sink.faults c.listen-3.new.notes })) silent c.in-Err-listen-2.ensures.noted in
    third_noted c.args.options.now (view_of (g.W.Wire.calls c.args.wire.now) (g.W.Wire.faults c.args.wire.now)) (view_of (g.W.Wire.calls c.listen.new.wire) (g.W.Wire.faults c.listen.new.wire)) (view_of (g.W.Wire.calls c.listen-2.new.wire) (g.W.Wire.faults c.listen-2.new.wire)) (view_of (g.W.Wire.calls c.listen-3.new.wire) (g.W.Wire.faults c.listen-3.new.wire)) c.in-Err-listen-2.fault _ _ c.in-Ok.ensures.done c.in-Ok-listen.ensures.done c.in-Err-listen-2.ensures.failed noted
