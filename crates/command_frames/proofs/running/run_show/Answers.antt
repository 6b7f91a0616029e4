use Rattle.command_streams.specs.declared.stop.OutputForm.TheVariants.{Lines}
use Rattle.command_frames.specs.declared.running.TheConstants.{BUDGET}
use Rattle.command_frames.specs.Showing.{headed}
use Rattle.command_frames.proofs.Histories.{numbers_carried}
use Rattle.command_frames.proofs.running.run_show.Goals as goal

pub returns-clause-shown : goal.returns-clause-shown
returns-clause-shown g c =
    let framed = c.run_by.ensures.framed in
    (framed.0, framed.1, c.run_is_told.ensures.answers (numbers_carried g.M.Outermost.family (headed g.M.Outermost.family) (λ s. s.shown)) Lines c.new-show.result 0 BUDGET (g.S.Source.left c.args.source.now) (g.K.Sink.taken c.args.sink.now) (g.K.Sink.taken c.run_by.new.sink) framed.0 c.new-show.ensures.none framed.2)

pub returns-clause-before_read_fault : goal.returns-clause-before_read_fault
returns-clause-before_read_fault g c three =
    c.run_is_told.ensures.written (numbers_carried g.M.Outermost.family (headed g.M.Outermost.family) (λ s. s.shown)) c.new-show.result 0 (g.S.Source.left c.args.source.now) (g.S.Source.left c.run_by.new.source) (g.K.Sink.taken c.args.sink.now) (g.K.Sink.taken c.run_by.new.sink) c.new-show.ensures.none (c.run_by.ensures.before_read_fault three)

pub returns-clause-taken : goal.returns-clause-taken
returns-clause-taken g c =
    c.run_is_told.ensures.before_last (numbers_carried g.M.Outermost.family (headed g.M.Outermost.family) (λ s. s.shown)) c.new-show.result 0 BUDGET (g.S.Source.left c.args.source.now) (g.S.Source.left c.run_by.new.source) (g.K.Sink.taken c.args.sink.now) (g.K.Sink.taken c.run_by.new.sink) c.new-show.ensures.none c.run_by.ensures.taken
