use Rattle.std.proofs.Common.{refl}
use Rattle.server_lines.proofs.RollLemmas.{begin_answered, none_begun}
use Rattle.server_lines.proofs.steered.begin.Goals as goal

pub returns : goal.returns
returns c =
    let done = c.begin-done in
    let desk = c.args.desk.now in
    record {
      run = λ sight. begin_answered sight desk.server.table desk.rollouts done.new.self c.args.id c.args.width c.args.allowed c.args.finder c.args.files done.result c.outcome_of_begin.result
          done.ensures.can done.ensures.begun done.ensures.failed done.ensures.err c.outcome_of_begin.ensures.words;
      profile = refl;
      err = none_begun desk.server.table desk.rollouts done.new.self done.result c.outcome_of_begin.result c.outcome_of_begin.ensures.err done.ensures.err;
    }
