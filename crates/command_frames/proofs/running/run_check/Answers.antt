use Rattle.command_streams.specs.declared.stop.OutputForm.TheVariants.{Lines}
use Rattle.command_frames.specs.declared.running.TheConstants.{BUDGET}
use Rattle.command_frames.specs.Checking.{checked_line}
use Rattle.command_frames.specs.Families.{reports}
use Rattle.command_frames.proofs.Histories.{numbers_carried}
use Rattle.command_frames.proofs.running.run_check.Goals as goal

pub returns-clause-checked : goal.returns-clause-checked
returns-clause-checked g c =
    let framed = c.run_by.ensures.framed in
    (framed.0, framed.1, c.run_is_told.ensures.answers (numbers_carried reports checked_line (λ s. s.checked)) Lines c.new-check.result 0 BUDGET (g.S.Source.left c.args.source.now) (g.K.Sink.taken c.args.sink.now) (g.K.Sink.taken c.run_by.new.sink) framed.0 c.new-check.ensures.none framed.2)

pub returns-clause-before_read_fault : goal.returns-clause-before_read_fault
returns-clause-before_read_fault g c three =
    c.run_is_told.ensures.written (numbers_carried reports checked_line (λ s. s.checked)) c.new-check.result 0 (g.S.Source.left c.args.source.now) (g.S.Source.left c.run_by.new.source) (g.K.Sink.taken c.args.sink.now) (g.K.Sink.taken c.run_by.new.sink) c.new-check.ensures.none (c.run_by.ensures.before_read_fault three)

pub returns-clause-taken : goal.returns-clause-taken
returns-clause-taken g c =
    c.run_is_told.ensures.before_last (numbers_carried reports checked_line (λ s. s.checked)) c.new-check.result 0 BUDGET (g.S.Source.left c.args.source.now) (g.S.Source.left c.run_by.new.source) (g.K.Sink.taken c.args.sink.now) (g.K.Sink.taken c.run_by.new.sink) c.new-check.ensures.none c.run_by.ensures.taken
