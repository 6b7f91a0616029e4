use Rattle.std.proofs.Common.{◌∙◌}
use Rattle.std.proofs.lemmas.Result.{err_from_is_err_and}
use Rattle.command_fleet.proofs.Written.{frames_cut, words_cut_of}
use Rattle.command_fleet.proofs.writing.put_fleet.Goals as goal

pub returns-in_err-put-clause-short : goal.returns-in_err-put-clause-short
returns-in_err-put-clause-short g c =
    let p = err_from_is_err_and c.from_residual-in_err-put.result c.from_residual-in_err-put.ensures.1 in
    let cut = c.in_err-put.ensures.bytes in
    rw (p.1, p.2) (frames_cut (g.K.Sink.taken c.args.sink.now) (g.K.Sink.taken c.put.new.self) cut.0 c.as_slice.result.now c.args.journals.now c.args.stop (c.as_slice.ensures.bytes ∙ c.in_ok-output.ensures.frames) cut.1)

pub returns-clause-short : goal.returns-clause-short
returns-clause-short g c =
    words_cut_of c.put_last_words.result (g.K.Sink.taken c.args.sink.now) (g.K.Sink.taken c.put.new.self) (g.K.Sink.taken c.put_last_words.new.sink) c.as_slice.result.now c.args.journals.now c.args.stop (c.as_slice.ensures.bytes ∙ c.in_ok-output.ensures.frames) c.in_ok-put.ensures.bytes c.put_last_words.ensures.cut
