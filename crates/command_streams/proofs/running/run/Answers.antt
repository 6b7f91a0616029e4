use Rattle.std.proofs.lemmas.Result.{err_from_is_err_and}
use Rattle.command_streams.specs.Output.{last_words}
use Rattle.command_streams.proofs.Steps.{IsReplied-ended, IsReplied-cut}
use Rattle.command_streams.proofs.Turns.{Adds-short, cut_answers, in_turn-more}
use Rattle.command_streams.proofs.running.run.Goals as goal

pub returns-in_err-put_last_words-clause-answers : goal.returns-in_err-put_last_words-clause-answers
returns-in_err-put_last_words-clause-answers g c =
    let p = err_from_is_err_and c.from_residual-in_err-put_last_words.result c.from_residual-in_err-put_last_words.ensures.1 in
    rw (p.1, p.2) (IsReplied-cut _ _ _ _ _ _ _ _ _ _ _ c.in_ok-stop.ensures.replied c.in_err-put_last_words.ensures.cut)

pub returns-clause-answers : goal.returns-clause-answers
returns-clause-answers g c = IsReplied-ended _ _ _ _ _ _ _ _ _ _ c.in_ok-stop.ensures.replied c.in_ok-put_last_words.ensures.ok

pub returns-in_err-stop-clause-no_further : goal.returns-in_err-stop-clause-no_further
returns-in_err-stop-clause-no_further g c = c.handle_all.ensures.before_last_take.takes

pub returns-in_err-put_last_words-clause-no_further : goal.returns-in_err-put_last_words-clause-no_further
returns-in_err-put_last_words-clause-no_further g c = c.handle_all.ensures.before_last_take.takes

pub returns-clause-no_further : goal.returns-clause-no_further
returns-clause-no_further g c = c.handle_all.ensures.before_last_take.takes

pub returns-in_err-stop-clause-before_last_take : goal.returns-in_err-stop-clause-before_last_take
returns-in_err-stop-clause-before_last_take g c = c.handle_all.ensures.before_last_take

pub returns-in_err-put_last_words-clause-before_last_take : goal.returns-in_err-put_last_words-clause-before_last_take
returns-in_err-put_last_words-clause-before_last_take g c =
    in_turn-more _ _ _ _ _ _ _ _ c.handle_all.ensures.before_last_take
    (Adds-short _ _ (last_words c.args.form c.in_ok-stop.stop) c.in_err-put_last_words.field-0.0 c.in_err-put_last_words.ensures.cut)

pub returns-clause-before_last_take : goal.returns-clause-before_last_take
returns-clause-before_last_take g c =
    in_turn-more _ _ _ _ _ _ _ _ c.handle_all.ensures.before_last_take (last_words c.args.form c.in_ok-stop.stop, c.in_ok-put_last_words.ensures.ok)

pub returns-in_err-stop-clause-answers : goal.returns-in_err-stop-clause-answers
returns-in_err-stop-clause-answers g c =
    let p = err_from_is_err_and c.from_residual.result c.from_residual.ensures.1 in
    rw (p.1, p.2) (cut_answers c.args.form g.H.Handler.gives c.args.handler.now c.args.budget _ _ _ c.in_err-stop.field-0.0 c.in_err-stop.ensures.cut)
