use Rattle.std.proofs.Common.{◌≤◌, sym, subst, ◌∙◌}
use Rattle.std.specs.Io.KnownBytes.{Appends}
use Rattle.std.proofs.lemmas.Result.{err_from_is_err_and}
use Rattle.command_streams.proofs.Exits.{not_err, no_write, answers_cut, same_count}
use Rattle.command_streams.proofs.Written.{appends_none, block_answered, block_wanting}
use Rattle.command_streams.proofs.answering.answer_block.Goals as goal
use Rattle.command_streams.proofs.answering.answer_block.Goals.{then-not-is_empty+in_ok-put, else-not-is_empty}

pub answer_frames-answered-requires-clause-fits : goal.answer_frames-answered-requires-clause-fits
answer_frames-answered-requires-clause-fits g c = c.requires.fits

pub answer_frames-answered-requires-clause-few : goal.answer_frames-answered-requires-clause-few
answer_frames-answered-requires-clause-few g c = c.requires.few

pub returns-in_err-put-clause-answers : goal.returns-in_err-put-clause-answers
returns-in_err-put-clause-answers g c =
    answers_cut g.H.Handler.gives c.args.handler.now c.answer_frames-answered.new.handler c.args.held.now c.answer_frames-answered.new.held (g.K.Sink.taken c.args.sink.now) (g.K.Sink.taken c.put.new.self) c.clear.new.self.bytes c.answer_frames-answered.new.pending.bytes c.as_slice-output.result.now c.answer_frames-answered.result c.from_residual.result
    c.answer_frames-answered.ensures.answers (rw c.clear.ensures.cleared) c.as_slice-output.ensures.bytes c.in_err-put.ensures.bytes (err_from_is_err_and c.from_residual.result c.from_residual.ensures.1)

pub returns-in_err-put-clause-write_fault : goal.returns-in_err-put-clause-write_fault
returns-in_err-put-clause-write_fault g c = λ is. c.in_err-put.ensures.fault

pub returns-in_err-put-clause-sink_count : goal.returns-in_err-put-clause-sink_count
returns-in_err-put-clause-sink_count g c = c.put.ensures.count

pub returns-in_err-answered-clause-write_fault : goal.returns-in_err-answered-clause-write_fault
returns-in_err-answered-clause-write_fault g c = λ is.
    no_write c.from_residual-in_err-answered.result (err_from_is_err_and c.from_residual-in_err-answered.result c.from_residual-in_err-answered.ensures.1) is

pub returns-clause-write_fault : goal.returns-clause-write_fault
returns-clause-write_fault g c = λ is. not_err _ _ is

pub returns-clause-answers : goal.returns-clause-answers
returns-clause-answers g c =
    let K = g.K.Sink in
    let wrote : Appends (K.taken c.args.sink.now) (K.taken c.if-not-is_empty.sink) c.as_slice-output.result.now =
    elim c.if-not-is_empty.branch [
      | then-not-is_empty+in_ok-put w ↦ subst (λ sink. Appends (K.taken c.args.sink.now) (K.taken sink) c.as_slice-output.result.now) (sym w.sink-is) w.in_ok-put.ensures.bytes
      | else-not-is_empty w ↦
          subst (λ sink. Appends (K.taken c.args.sink.now) (K.taken sink) c.as_slice-output.result.now) (sym w.sink-is)
          (appends_none (K.taken c.args.sink.now) c.as_slice-output.result.now (sym c.is_empty.ensures ∙ w.if-not-is_empty.false))
    ] in
    block_answered g.H.Handler.gives c.args.handler.now c.answer_frames-answered.new.handler c.args.held.now c.answer_frames-answered.new.held (K.taken c.args.sink.now) (K.taken c.if-not-is_empty.sink) c.clear.new.self.bytes c.answer_frames-answered.new.pending.bytes c.as_slice-output.result.now
    (rw c.clear.ensures.cleared) c.as_slice-output.ensures.bytes wrote c.in_ok-answered.field-0 c.in_ok-answered.ensures.answers

pub returns-in_err-answered-clause-answers : goal.returns-in_err-answered-clause-answers
returns-in_err-answered-clause-answers g c =
    let K = g.K.Sink in
    let wrote : Appends (K.taken c.args.sink.now) (K.taken c.if-not-is_empty.sink) c.as_slice-output.result.now =
    elim c.if-not-is_empty.branch [
      | then-not-is_empty+in_ok-put w ↦ subst (λ sink. Appends (K.taken c.args.sink.now) (K.taken sink) c.as_slice-output.result.now) (sym w.sink-is) w.in_ok-put.ensures.bytes
      | else-not-is_empty w ↦
          subst (λ sink. Appends (K.taken c.args.sink.now) (K.taken sink) c.as_slice-output.result.now) (sym w.sink-is)
          (appends_none (K.taken c.args.sink.now) c.as_slice-output.result.now (sym c.is_empty.ensures ∙ w.if-not-is_empty.false))
    ] in
    block_wanting g.H.Handler.gives c.args.handler.now c.answer_frames-answered.new.handler c.args.held.now c.answer_frames-answered.new.held (K.taken c.args.sink.now) (K.taken c.if-not-is_empty.sink) c.clear.new.self.bytes c.answer_frames-answered.new.pending.bytes c.as_slice-output.result.now
    (rw c.clear.ensures.cleared) c.as_slice-output.ensures.bytes wrote c.in_err-answered.field-0.0 c.from_residual-in_err-answered.result (err_from_is_err_and c.from_residual-in_err-answered.result c.from_residual-in_err-answered.ensures.1) c.in_err-answered.ensures.answers

pub returns-clause-sink_count : goal.returns-clause-sink_count
returns-clause-sink_count g c =
    let faults = g.K.Sink.faults in
    elim c.if-not-is_empty.branch [
      | then-not-is_empty+in_ok-put w ↦ subst (λ sink. faults c.args.sink.now ≤ faults sink) (sym w.sink-is) w.put.ensures.count
      | else-not-is_empty w ↦ subst (λ sink. faults c.args.sink.now ≤ faults sink) (sym w.sink-is) (same_count (faults c.args.sink.now))
    ]

pub returns-in_err-answered-clause-sink_count : goal.returns-in_err-answered-clause-sink_count
returns-in_err-answered-clause-sink_count g c =
    let faults = g.K.Sink.faults in
    elim c.if-not-is_empty.branch [
      | then-not-is_empty+in_ok-put w ↦ subst (λ sink. faults c.args.sink.now ≤ faults sink) (sym w.sink-is) w.put.ensures.count
      | else-not-is_empty w ↦ subst (λ sink. faults c.args.sink.now ≤ faults sink) (sym w.sink-is) (same_count (faults c.args.sink.now))
    ]
