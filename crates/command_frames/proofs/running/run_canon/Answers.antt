use Rattle.command_streams.specs.declared.stop.OutputForm.TheVariants.{Frames}
use Rattle.command_frames.specs.declared.running.TheConstants.{BUDGET}
use Rattle.command_frames.proofs.Histories.{rewrites_carried}
use Rattle.command_frames.proofs.running.run_canon.Goals as goal

pub returns-clause-canonical : goal.returns-clause-canonical
returns-clause-canonical g c =
    let framed = c.run_by.ensures.framed in
    (framed.0, framed.1, c.run_is_told.ensures.answers (rewrites_carried g.M.Outermost.family) Frames c.new-canon.result tt BUDGET (g.S.Source.left c.args.source.now) (g.K.Sink.taken c.args.sink.now) (g.K.Sink.taken c.run_by.new.sink) framed.0 tt framed.2)

pub returns-clause-before_read_fault : goal.returns-clause-before_read_fault
returns-clause-before_read_fault g c three =
    c.run_is_told.ensures.written (rewrites_carried g.M.Outermost.family) c.new-canon.result tt (g.S.Source.left c.args.source.now) (g.S.Source.left c.run_by.new.source) (g.K.Sink.taken c.args.sink.now) (g.K.Sink.taken c.run_by.new.sink) tt (c.run_by.ensures.before_read_fault three)

pub returns-clause-taken : goal.returns-clause-taken
returns-clause-taken g c =
    c.run_is_told.ensures.before_last (rewrites_carried g.M.Outermost.family) c.new-canon.result tt BUDGET (g.S.Source.left c.args.source.now) (g.S.Source.left c.run_by.new.source) (g.K.Sink.taken c.args.sink.now) (g.K.Sink.taken c.run_by.new.sink) tt c.run_by.ensures.taken
