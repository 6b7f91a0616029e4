use Rattle.std.proofs.Common.{◌≤◌, true, false, inl, inr, refl, arith}
use Rattle.std.specs.Option.{option_copied}
use Rattle.message_handlers.specs.Asking.{MayAnswer}
use Rattle.message_handlers.specs.Names.{names_of}
use Rattle.server_sessions.specs.Wiring.{view_of}
use Rattle.server_deliveries.specs.Deliveries.{anew, delivered_of}
use Rattle.command_serve.specs.Rolling.{lines_of, progress_in}
use Rattle.command_serve.proofs.Noting.{failed_noted, served_noted, spent_noted, wanting_noted}
use Rattle.command_serve.proofs.Reported.{memory_wanted, reported, wire_failed}
use Rattle.command_serve.proofs.serving.run_desk.Goals as goal

-- `stop` came
pub returns-in-Ok-clause-served : goal.returns-in-Ok-clause-served
returns-in-Ok-clause-served g c =
    let bytes = lines_of c.in-Ok.events (progress_in (option_copied c.args.told) c.serve_all.new.desk.rollouts) in
    let line = rw c.progress_in.ensures.progress at c.lines_of-lines.ensures.lines in
    reported (names_of c.args.handlers.now) (MayAnswer (λ b. (goal.Handler-dyn g b).answers b.1) c.args.handlers.now) c.args.options.now (record { rollouts = c.args.desk.now.rollouts; delivered = anew (delivered_of g.J.Judge.finds_fine c.args.delivery.now) }) (option_copied c.args.told) (record { sink = record { taken = g.K.Sink.taken c.args.sink.now; faults = g.K.Sink.faults c.args.sink.now }; wire = view_of (g.W.Wire.calls c.args.wire.now) (g.W.Wire.faults c.args.wire.now); entropy = g.E.Entropy.state c.args.entropy.now }) (record { sink = record { taken = g.K.Sink.taken c.report.new.sink; faults = g.K.Sink.faults c.report.new.sink }; wire = view_of (g.W.Wire.calls c.serve_all.new.wire) (g.W.Wire.faults c.serve_all.new.wire); entropy = g.E.Entropy.state c.serve_all.new.entropy }) c.in-Ok.events (record { rollouts = c.serve_all.new.desk.rollouts; delivered = delivered_of g.J.Judge.finds_fine c.serve_all.new.delivery }) true c.report.result c.in-Ok.ensures.ends.0
    (λ is. absurd (cc is)) c.in-Ok.ensures.ends.1 (λ is. c.in-Ok.ensures.stops_last)
    (record {
      stopped = c.report.ensures.stopped bytes line;
      spent = c.report.ensures.spent bytes line;
      no_wire_fault = c.report.ensures.no_wire_fault;
      cut = c.report.ensures.cut bytes line;
      write_fault = c.report.ensures.write_fault;
    })

pub returns-in-Ok-clause-silent : goal.returns-in-Ok-clause-silent
returns-in-Ok-clause-silent g c = λ either. elim either [
  | inl fault ↦ absurd (c.report.ensures.no_wire_fault fault)
  | inr wanting ↦ c.report.ensures.silent wanting
]

-- all turns were taken
pub returns-in-Err-TurnsSpent-clause-served : goal.returns-in-Err-TurnsSpent-clause-served
returns-in-Err-TurnsSpent-clause-served g c =
    let within : c.args.options.now.turns ≤ c.args.options.now.turns = omega arith in
    let own = rw c.in-Err-TurnsSpent.field-0-is at c.in-Err-TurnsSpent.ensures.ends in
    let bytes = lines_of c.args.options.now.turns (progress_in (option_copied c.args.told) c.serve_all.new.desk.rollouts) in
    let line = rw c.progress_in-in-Err-TurnsSpent.ensures.progress at c.lines_of-lines-in-Err-TurnsSpent.ensures.lines in
    reported (names_of c.args.handlers.now) (MayAnswer (λ b. (goal.Handler-dyn g b).answers b.1) c.args.handlers.now) c.args.options.now (record { rollouts = c.args.desk.now.rollouts; delivered = anew (delivered_of g.J.Judge.finds_fine c.args.delivery.now) }) (option_copied c.args.told) (record { sink = record { taken = g.K.Sink.taken c.args.sink.now; faults = g.K.Sink.faults c.args.sink.now }; wire = view_of (g.W.Wire.calls c.args.wire.now) (g.W.Wire.faults c.args.wire.now); entropy = g.E.Entropy.state c.args.entropy.now }) (record { sink = record { taken = g.K.Sink.taken c.report-in-Err-TurnsSpent.new.sink; faults = g.K.Sink.faults c.report-in-Err-TurnsSpent.new.sink }; wire = view_of (g.W.Wire.calls c.serve_all.new.wire) (g.W.Wire.faults c.serve_all.new.wire); entropy = g.E.Entropy.state c.serve_all.new.entropy }) c.args.options.now.turns (record { rollouts = c.serve_all.new.desk.rollouts; delivered = delivered_of g.J.Judge.finds_fine c.serve_all.new.delivery }) false c.report-in-Err-TurnsSpent.result within
    (λ is. refl) own (λ is. absurd (cc is))
    (record {
      stopped = c.report-in-Err-TurnsSpent.ensures.stopped bytes line;
      spent = c.report-in-Err-TurnsSpent.ensures.spent bytes line;
      no_wire_fault = c.report-in-Err-TurnsSpent.ensures.no_wire_fault;
      cut = c.report-in-Err-TurnsSpent.ensures.cut bytes line;
      write_fault = c.report-in-Err-TurnsSpent.ensures.write_fault;
    })

pub returns-in-Err-TurnsSpent-clause-silent : goal.returns-in-Err-TurnsSpent-clause-silent
returns-in-Err-TurnsSpent-clause-silent g c = λ either. elim either [
  | inl fault ↦ absurd (c.report-in-Err-TurnsSpent.ensures.no_wire_fault fault)
  | inr wanting ↦ c.report-in-Err-TurnsSpent.ensures.silent wanting
]

pub returns-in-Err-WireFault-clause-served : goal.returns-in-Err-WireFault-clause-served
returns-in-Err-WireFault-clause-served g c =
    let own = rw c.in-Err-WireFault.field-0-is at c.in-Err-WireFault.ensures.ends in
    wire_failed (names_of c.args.handlers.now) (MayAnswer (λ b. (goal.Handler-dyn g b).answers b.1) c.args.handlers.now) c.args.options.now (record { rollouts = c.args.desk.now.rollouts; delivered = anew (delivered_of g.J.Judge.finds_fine c.args.delivery.now) }) (option_copied c.args.told) (record { sink = record { taken = g.K.Sink.taken c.args.sink.now; faults = g.K.Sink.faults c.args.sink.now }; wire = view_of (g.W.Wire.calls c.args.wire.now) (g.W.Wire.faults c.args.wire.now); entropy = g.E.Entropy.state c.args.entropy.now }) (record { sink = record { taken = g.K.Sink.taken c.args.sink.now; faults = g.K.Sink.faults c.args.sink.now }; wire = view_of (g.W.Wire.calls c.serve_all.new.wire) (g.W.Wire.faults c.serve_all.new.wire); entropy = g.E.Entropy.state c.serve_all.new.entropy }) own

pub returns-in-Err-NoMemory-clause-served : goal.returns-in-Err-NoMemory-clause-served
returns-in-Err-NoMemory-clause-served g c =
    let own = rw c.in-Err-NoMemory.field-0-is at c.in-Err-NoMemory.ensures.ends in
    memory_wanted (names_of c.args.handlers.now) (MayAnswer (λ b. (goal.Handler-dyn g b).answers b.1) c.args.handlers.now) c.args.options.now (record { rollouts = c.args.desk.now.rollouts; delivered = anew (delivered_of g.J.Judge.finds_fine c.args.delivery.now) }) (option_copied c.args.told) (record { sink = record { taken = g.K.Sink.taken c.args.sink.now; faults = g.K.Sink.faults c.args.sink.now }; wire = view_of (g.W.Wire.calls c.args.wire.now) (g.W.Wire.faults c.args.wire.now); entropy = g.E.Entropy.state c.args.entropy.now }) (record { sink = record { taken = g.K.Sink.taken c.args.sink.now; faults = g.K.Sink.faults c.args.sink.now }; wire = view_of (g.W.Wire.calls c.serve_all.new.wire) (g.W.Wire.faults c.serve_all.new.wire); entropy = g.E.Entropy.state c.serve_all.new.entropy }) own

-- ---- what is noted so far

pub returns-in-Ok-clause-noted : goal.returns-in-Ok-clause-noted
returns-in-Ok-clause-noted g c = served_noted (MayAnswer (λ b. (goal.Handler-dyn g b).answers b.1) c.args.handlers.now) c.args.options.now (view_of (g.W.Wire.calls c.args.wire.now) (g.W.Wire.faults c.args.wire.now)) (view_of (g.W.Wire.calls c.serve_all.new.wire) (g.W.Wire.faults c.serve_all.new.wire)) _ _ c.in-Ok.events c.report.result c.report.ensures.no_wire_fault c.in-Ok.ensures.noted

pub returns-in-Err-TurnsSpent-clause-noted : goal.returns-in-Err-TurnsSpent-clause-noted
returns-in-Err-TurnsSpent-clause-noted g c =
    let own = rw c.in-Err-TurnsSpent.field-0-is at c.in-Err-TurnsSpent.ensures.noted in
    spent_noted (MayAnswer (λ b. (goal.Handler-dyn g b).answers b.1) c.args.handlers.now) c.args.options.now (view_of (g.W.Wire.calls c.args.wire.now) (g.W.Wire.faults c.args.wire.now)) (view_of (g.W.Wire.calls c.serve_all.new.wire) (g.W.Wire.faults c.serve_all.new.wire)) _ _ c.report-in-Err-TurnsSpent.result c.report-in-Err-TurnsSpent.ensures.no_wire_fault own

pub returns-in-Err-WireFault-clause-noted : goal.returns-in-Err-WireFault-clause-noted
returns-in-Err-WireFault-clause-noted g c =
    let own = rw c.in-Err-WireFault.field-0-is at c.in-Err-WireFault.ensures.noted in
    failed_noted (MayAnswer (λ b. (goal.Handler-dyn g b).answers b.1) c.args.handlers.now) c.args.options.now (view_of (g.W.Wire.calls c.args.wire.now) (g.W.Wire.faults c.args.wire.now)) (view_of (g.W.Wire.calls c.serve_all.new.wire) (g.W.Wire.faults c.serve_all.new.wire)) _ _ own

pub returns-in-Err-NoMemory-clause-noted : goal.returns-in-Err-NoMemory-clause-noted
returns-in-Err-NoMemory-clause-noted g c =
    let own = rw c.in-Err-NoMemory.field-0-is at c.in-Err-NoMemory.ensures.noted in
    wanting_noted (MayAnswer (λ b. (goal.Handler-dyn g b).answers b.1) c.args.handlers.now) c.args.options.now (view_of (g.W.Wire.calls c.args.wire.now) (g.W.Wire.faults c.args.wire.now)) (view_of (g.W.Wire.calls c.serve_all.new.wire) (g.W.Wire.faults c.serve_all.new.wire)) _ _ own
