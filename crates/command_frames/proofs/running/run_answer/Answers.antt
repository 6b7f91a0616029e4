use Rattle.std.proofs.Common.{[], refl}
use Rattle.server_core.specs.declared.rows.TheConstants.{AGENT_LIMIT}
use Rattle.command_streams.specs.declared.stop.OutputForm.TheVariants.{Frames}
use Rattle.command_frames.specs.declared.running.TheConstants.{BUDGET}
use Rattle.command_frames.specs.Answering.{empty_server}
use Rattle.command_frames.proofs.Histories.{histories_carried}
use Rattle.command_frames.proofs.running.run_answer.Goals as goal

pub returns-clause-answers : goal.returns-clause-answers
returns-clause-answers g c =
    let framed = rw c.new-answer.ensures.made at c.run_by.ensures.framed in
    let carried = histories_carried (record { follows = c.table_follows_history.ensures.follows AGENT_LIMIT; replies = c.table_follows_history.ensures.replies AGENT_LIMIT }) in
    (framed.0, framed.1, c.run_is_told.ensures.answers carried Frames empty_server [] BUDGET (g.S.Source.left c.args.source.now) (g.K.Sink.taken c.args.sink.now) (g.K.Sink.taken c.run_by.new.sink) framed.0 (refl, refl) framed.2)

pub returns-clause-before_read_fault : goal.returns-clause-before_read_fault
returns-clause-before_read_fault g c three =
    let written = rw c.new-answer.ensures.made at c.run_by.ensures.before_read_fault in
    let carried = histories_carried (record { follows = c.table_follows_history.ensures.follows AGENT_LIMIT; replies = c.table_follows_history.ensures.replies AGENT_LIMIT }) in
    c.run_is_told.ensures.written carried empty_server [] (g.S.Source.left c.args.source.now) (g.S.Source.left c.run_by.new.source) (g.K.Sink.taken c.args.sink.now) (g.K.Sink.taken c.run_by.new.sink) (refl, refl) (written three)

pub returns-clause-taken : goal.returns-clause-taken
returns-clause-taken g c =
    let taken = rw c.new-answer.ensures.made at c.run_by.ensures.taken in
    let carried = histories_carried (record { follows = c.table_follows_history.ensures.follows AGENT_LIMIT; replies = c.table_follows_history.ensures.replies AGENT_LIMIT }) in
    c.run_is_told.ensures.before_last carried empty_server [] BUDGET (g.S.Source.left c.args.source.now) (g.S.Source.left c.run_by.new.source) (g.K.Sink.taken c.args.sink.now) (g.K.Sink.taken c.run_by.new.sink) (refl, refl) taken
